-- The items so far were counted.
use Rattle.std.proofs.Common.{◌≡◌, length}
use Rattle.allocative.proofs.Common.{checked}
use Rattle.allocative.proofs.visitor.iterators.count_of.Given as goal

abbrev pub invariant-loop-item : goal.invariant-loop-item
invariant-loop-item g l = l.count ≡ checked (length l.yielded)
