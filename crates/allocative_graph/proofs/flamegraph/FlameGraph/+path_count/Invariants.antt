-- of path_count: what its loop keeps
use Rattle.std.proofs.Common.{◌≡◌, ◌+◌, ◌<◌, ◌^◌, take}
use Rattle.allocative_graph.proofs.Nodes.{paths_of}
use Rattle.allocative_graph.proofs.flamegraph.FlameGraph.+path_count.Given as goal

-- The root and the paths of the children before this one are counted, and their number fits.
abbrev pub invariant-loop-child : goal.invariant-loop-child
invariant-loop-child l = (l.count ≡ 1 + paths_of (take l.child-index l.child-items)) × (l.count < 2 ^ 64)
