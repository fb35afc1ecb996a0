-- of total_size: tree
use Rattle.allocative_graph.proofs.Nodes.{tree_of_node}
use Rattle.allocative_graph.proofs.flamegraph.FlameGraph.total_size.Goals as goal

pub returns-clause-tree : goal.returns-clause-tree
returns-clause-tree c = tree_of_node c.self.view_is c.self.invariant
