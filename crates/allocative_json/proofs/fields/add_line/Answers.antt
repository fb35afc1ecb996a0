-- of add_line: ok, if the line is not blank
use Rattle.std.proofs.Common.{sym, ◌∙◌}
use Rattle.allocative_json.proofs.FieldsLemmas.{adds_line}
use Rattle.allocative_json.proofs.fields.add_line.Goals as goal

pub returns-clause-ok : goal.returns-clause-ok
returns-clause-ok c = adds_line c.args.line.now c.in_ok-document.document _ _
    (sym c.if-is_blank.false ∙ c.is_blank.ensures) c.in_ok-document.ensures.ok c.add_document.ensures
