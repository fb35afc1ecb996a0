-- of clone: what its loop keeps
use Rattle.std.proofs.Common.{◌≡◌, take}
use Rattle.allocative_graph.proofs.flamegraph.FlameGraphClone.+clone.Given as goal

-- The children so far are copied.
abbrev pub invariant-loop-key : goal.invariant-loop-key
invariant-loop-key l = l.children.items ≡ take l.key-index l.key-items
