-- A write of guesses keeps the tree.
use Rattle.std.proofs.Common.{refl}
use Rattle.allocative_collectors.proofs.NodeReads.{in_nodes, written_tree}
use Rattle.allocative_collectors.proofs.tree.Tree.expect_follower.Goals as goal

pub invariant_of-self : goal.invariant_of-self
invariant_of-self c = written_tree c.self.invariant c.args.at
    _ (in_nodes _ c.args.at c.self.view_is c.requires.parent) c.index_mut-node.ensures.value refl refl (λ e. refl)
