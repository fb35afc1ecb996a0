-- The list of keys is unchanged, and the graph has the node and its children so far.
use Rattle.std.proofs.Common.{◌≡◌, ◌-◌, length, map}
use Rattle.allocative_collectors.proofs.Common.{keys_at, path_at, warning_of, numbers, MakesPart}
use Rattle.allocative_collectors.proofs.NodeReads.{begun}
use Rattle.allocative_collectors.proofs.tree.Tree.+build_graph.Given as goal

abbrev pub decreases-build_graph : goal.decreases-build_graph
decreases-build_graph l = length l.self.now - l.at

abbrev pub invariant-loop-child : goal.invariant-loop-child
invariant-loop-child l = record {
  keys : l.keys.items ≡ l.fn.keys.items;
  made : MakesPart l.self (path_at l.self l.at)
      (begun (keys_at l.self-inside.nodes.items (map numbers l.self-inside.children.items) l.at) l.child-index)
      (map warning_of l.fn.warned.items) (map warning_of l.warned.items) l.graph;
}
