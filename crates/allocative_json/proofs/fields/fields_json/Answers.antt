-- of fields_json: ok and err, if the input is a document
use Rattle.std.proofs.Common.{[], ◌∷◌, false}
use Rattle.allocative_json.proofs.FieldsLemmas.{written}
use Rattle.allocative_json.proofs.fields.fields_json.Goals as goal

-- The text is that of the one document.
pub returns-clause-ok : goal.returns-clause-ok
returns-clause-ok c = (written false c.args.input.now (c.in_ok-document.document ∷ []) c.text_of.result
    (c.in_ok-document.ensures.ok, tt) (c.text_of.ensures _ (c.add_document-sum.ensures [] c.default.ensures))).0

-- There is none, for the sum's reason.
pub returns-clause-err : goal.returns-clause-err
returns-clause-err c = (written false c.args.input.now (c.in_ok-document.document ∷ []) c.text_of.result
    (c.in_ok-document.ensures.ok, tt) (c.text_of.ensures _ (c.add_document-sum.ensures [] c.default.ensures))).1
