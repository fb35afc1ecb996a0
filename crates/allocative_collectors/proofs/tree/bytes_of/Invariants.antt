-- The nodes before this one are counted.
use Rattle.std.proofs.Common.{◌≡◌, sum_by, take}
use Rattle.allocative_collectors.proofs.Common.{bytes_at}
use Rattle.allocative_collectors.proofs.tree.bytes_of.Given as goal

abbrev pub invariant-loop-number : goal.invariant-loop-number
invariant-loop-number l = l.sum ≡ sum_by (bytes_at l.nodes) (take l.number-index l.numbers)
