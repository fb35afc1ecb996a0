-- A write of a guess keeps the tree.
use Rattle.std.proofs.Common.{refl, arith}
use Rattle.allocative_collectors.proofs.NodeReads.{written_tree}
use Rattle.allocative_collectors.proofs.tree.Tree.set_follower.Goals as goal

pub invariant_of-self : goal.invariant_of-self
invariant_of-self c = written_tree c.self.invariant c.index.result.now.last
    _ (omega (arith, c.self.inside.nodes.ok.0, c.len.ensures, c.if-last-len.false)) c.index_mut.ensures.value refl refl
    (λ e. refl)
