-- The graph of a node with no children has its own size alone, and no warning.
use Rattle.std.proofs.Common.{ap, ◌∙◌}
use Rattle.allocative_collectors.proofs.Common.{add_self}
use Rattle.allocative_collectors.proofs.NodeReads.{leaf_made}
use Rattle.allocative_collectors.proofs.tree.Tree.leaf.Goals as goal

pub returns-in-Ok : goal.returns-in-Ok
returns-in-Ok c = leaf_made c.self.invariant c.self.view_is c.args.at c.requires c.index.ensures
    (c.is_empty.ensures c.if-not-is_empty.false) c.index-node.ensures c.add_self.new.self
    (c.in-Ok.ensures.sum ∙ ap (add_self c.index-node.result.now.bytes) c.default-graph.ensures)
