-- The chunks before this one are copied.
use Rattle.std.proofs.Common.{◌≡◌, take}
use Rattle.allocative_collectors.proofs.Common.{flat}
use Rattle.allocative_collectors.proofs.children.Children.list.Given as goal

abbrev pub invariant-loop-chunk : goal.invariant-loop-chunk
invariant-loop-chunk l = l.copies.items ≡ flat (take l.chunk-index l.chunk-items)
