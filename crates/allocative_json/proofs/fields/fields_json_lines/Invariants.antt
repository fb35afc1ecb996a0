-- of fields_json_lines: the invariant of its loop
use Rattle.allocative_json.proofs.FieldsLemmas.{SumsLines}
use Rattle.allocative_json.proofs.fields.fields_json_lines.Given as goal

-- The sum is that of the lines before this one.
abbrev pub invariant-loop-number : goal.invariant-loop-number
invariant-loop-number g l =
    SumsLines (g.R.Read.remaining l.fn.input) (g.R.Read.remaining l.input) l.number l.sum
