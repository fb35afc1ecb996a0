-- The child that was found, and the new one.
use Rattle.std.proofs.Common.{◌≡◌, length, [], ◌∷◌, ◌++◌, ap, ◌∙◌}
use Rattle.allocative_collectors.proofs.Common.{leaf}
use Rattle.allocative_collectors.proofs.NodeReads.{found_entered, grown_entered}
use Rattle.allocative_collectors.proofs.tree.Tree.search_child.Goals as goal
use Rattle.allocative_collectors.proofs.tree.Tree.search_child.Goals.{After-index_mut, After-push_reserved-in-Err}

pub returns-in-Ok-clause-entered : goal.returns-in-Ok-clause-entered
returns-in-Ok-clause-entered c = found_entered c.self.invariant c.self.view_is c.args.at c.requires c.index.ensures
    c.deref.ensures.value c.args.key.now c.in-Ok.child c.in-Ok.ensures.found

-- the nodes after all writes, and the number of the new one
nodes : (c : After-push_reserved-in-Err) → c.push_reserved-in-Err.new.self.items
    ≡ c.self.inside.nodes.items ++ leaf c.args.at c.args.key.now ∷ []
nodes c = c.push_reserved-in-Err.ensures.items ∙ (λ j. c.in_ok-reserve-in-Err.ensures.items j
    ++ (c.new.ensures ∙ ap (leaf c.args.at) c.copy.ensures) j ∷ [])

number : (c : After-push_reserved-in-Err) → c.len-node.result ≡ length c.self.inside.nodes.items
number c = c.len-node.ensures ∙ c.self.inside.nodes.ok.0

pub returns-in_ok-insert-in-Err-clause-entered : goal.returns-in_ok-insert-in-Err-clause-entered
returns-in_ok-insert-in-Err-clause-entered c =
    let here = (goal.at.returns-in_ok-insert-in-Err-clause-entered c).After-push_reserved-in-Err in
    grown_entered c.self.invariant c.self.view_is c.args.at c.requires c.index.ensures c.deref.ensures.value
    c.args.key.now _ c.in-Err.ensures.absent _ _ (nodes here) (number here)
