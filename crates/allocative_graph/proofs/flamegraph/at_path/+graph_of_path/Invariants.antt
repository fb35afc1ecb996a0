-- of graph_of_path: how far it still has to go
use Rattle.std.proofs.Common.{length}
use Rattle.allocative_graph.proofs.flamegraph.at_path.+graph_of_path.Given as goal

abbrev pub decreases-graph_of_path : goal.decreases-graph_of_path
decreases-graph_of_path l = length l.path.now
