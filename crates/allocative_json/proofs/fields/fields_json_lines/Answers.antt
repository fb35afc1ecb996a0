-- of fields_json_lines: a line more, the last one, and one that is no document
use Rattle.allocative_json.proofs.FieldsLemmas.{one_more_line, last_line, wrong_line}
use Rattle.allocative_json.proofs.fields.fields_json_lines.Goals as goal

-- A line is read, and others may follow.
pub loop-number-preserved : goal.loop-number-preserved
loop-number-preserved g c = one_more_line _ _ _ _ _ c.as_slice.result.now _ _ c.loop-number.invariant
    (rw c.as_slice.ensures.value c.in_ok-is_ended.ensures.ok) c.if-not-is_ended.false c.in_ok-sum.ensures.ok

-- The text is that of all lines.
pub returns-then-not-is_ended-clause-ok : goal.returns-then-not-is_ended-clause-ok
returns-then-not-is_ended-clause-ok g c =
    (last_line (g.R.Read.remaining c.args.input.now) (g.R.Read.remaining c.loop-number.input)
    (g.R.Read.remaining c.read_line.new.input) _ c.in_ok-is_ended.is_ended c.as_slice.result.now _ _ c.text_of.result
    c.loop-number.invariant (rw c.as_slice.ensures.value c.in_ok-is_ended.ensures.ok) c.if-not-is_ended.true
    c.in_ok-sum.ensures.ok c.text_of.ensures).0

-- There is none, for the sum's reason.
pub returns-then-not-is_ended-clause-err : goal.returns-then-not-is_ended-clause-err
returns-then-not-is_ended-clause-err g c =
    (last_line (g.R.Read.remaining c.args.input.now) (g.R.Read.remaining c.loop-number.input)
    (g.R.Read.remaining c.read_line.new.input) _ c.in_ok-is_ended.is_ended c.as_slice.result.now _ _ c.text_of.result
    c.loop-number.invariant (rw c.as_slice.ensures.value c.in_ok-is_ended.ensures.ok) c.if-not-is_ended.true
    c.in_ok-sum.ensures.ok c.text_of.ensures).1

-- A line is no document.
pub returns-in_err-sum-clause-err : goal.returns-in_err-sum-clause-err
returns-in_err-sum-clause-err g c =
    wrong_line (g.R.Read.remaining c.args.input.now) (g.R.Read.remaining c.loop-number.input)
    (g.R.Read.remaining c.read_line.new.input) _ c.in_ok-is_ended.is_ended c.as_slice.result.now _
    c.in_err-sum.field-0.0 _ c.loop-number.invariant (rw c.as_slice.ensures.value c.in_ok-is_ended.ensures.ok)
    c.in_err-sum.ensures.err c.from_residual-in_err-sum.ensures.1
