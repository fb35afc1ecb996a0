-- What is still searched lies among the starts.
use Rattle.std.proofs.Common.{◌+◌, ◌≤◌, length}
use Rattle.allocative_collectors.proofs.tree.count_below.Given as goal

abbrev pub invariant-loop-rest : goal.invariant-loop-rest
invariant-loop-rest l = l.below + l.rest ≤ length l.starts

abbrev pub decreases-loop-rest : goal.decreases-loop-rest
decreases-loop-rest l = l.rest
