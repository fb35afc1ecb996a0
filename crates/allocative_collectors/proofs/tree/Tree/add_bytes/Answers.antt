-- The bytes are written at the node, which is not the root.
use Rattle.std.proofs.Common.{refl, arith}
use Rattle.allocative_collectors.proofs.NodeReads.{in_nodes, written_tree}
use Rattle.allocative_collectors.proofs.tree.Tree.add_bytes.Goals as goal

pub invariant_of-self : goal.invariant_of-self
invariant_of-self c = written_tree c.self.invariant c.args.node
    _ (in_nodes _ c.args.node c.self.view_is c.requires.node.1) c.index_mut-entered.ensures.value refl refl
    (λ e. absurd (omega (arith, c.requires.node.0)))
