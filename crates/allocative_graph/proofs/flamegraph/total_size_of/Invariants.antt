-- of total_size_of: what its loop keeps
use Rattle.std.proofs.Common.{◌≡◌, ◌<◌, ◌^◌, take}
use Rattle.allocative_graph.proofs.Common.{total_of}
use Rattle.allocative_graph.proofs.flamegraph.total_size_of.Given as goal

-- The children before this one are counted, and their totals fit.
abbrev pub invariant-loop-child : goal.invariant-loop-child
invariant-loop-child l = (l.sum ≡ total_of (take l.child-index l.children)) × (l.sum < 2 ^ 64)
