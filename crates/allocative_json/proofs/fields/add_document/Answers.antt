-- of add_document: what refuses to add the graph
use Rattle.std.proofs.Common.{subst, sym}
use Rattle.allocative_json.proofs.Common.{AddsDocument}
use Rattle.allocative_json.proofs.FieldsLemmas.{adds_unadded}
use Rattle.allocative_json.proofs.fields.add_document.Goals as goal

pub returns-in_err-add_child : goal.returns-in_err-add_child
returns-in_err-add_child c =
    let r = c.from_residual-in_err-add_child.result in
    let v = c.args.document.now in
    subst (λ s. AddsDocument v s r) (sym c.in_ok-graph.was) (adds_unadded v _ _ c.in_err-add_child.field-0.0 r
    c.from_residual-in_err-add_child.ensures.1 c.in_err-add_child.ensures.too_large.0
    c.in_err-add_child.ensures.never_open c.in_ok-graph_of.ensures)
