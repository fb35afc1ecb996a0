-- of fold_keys: its view and its total
use Rattle.std.proofs.Common.{[], map, ap, ◌∙◌, arith, take_all}
use Rattle.std.proofs.lemmas.Result.{IfOk-weaker}
use Rattle.allocative_picture.proofs.Common.{total, size_at, sum_of_all}
use Rattle.allocative_picture.specs.Views.{bytes_alone, folded_child, new_key}
use Rattle.allocative_picture.proofs.Folding.{folded_node, total_folded}
use Rattle.allocative_picture.proofs.views.+fold_keys.Goals as goal

pub returns-clause-view : goal.returns-clause-view
returns-clause-view t c =
    let f = new_key c.args.names.now in
    let g = c.args.graph.now in
    let cs = c.children-children.result.now in
    let node = c.children-children.ensures in
    let below = c.loop-child.invariant
    ∙ ap (map (folded_child f)) (take_all c.loop-child.child-index cs (omega arith)) in
    IfOk-weaker c.put_together.result _ _
    (λ view is. is ∙ (λ i. sum_of_all (bytes_alone (c.self_size.ensures i)) (below i))
    ∙ folded_node f g (size_at g []) cs node.whole node.children)
    c.put_together.ensures

pub returns-clause-total : goal.returns-clause-total
returns-clause-total t c = IfOk-weaker c.put_together.result _ _
    (λ view is. ap total is ∙ total_folded (new_key c.args.names.now) c.args.graph.now) (returns-clause-view t c)
