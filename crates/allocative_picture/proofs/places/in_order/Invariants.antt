-- of in_order: the invariant of its loop
use Rattle.std.proofs.Common.{◌≡◌, take}
use Rattle.allocative_picture.specs.Places.{numbered}
use Rattle.allocative_picture.proofs.places.in_order.Given as goal

-- The places are those of the children so far.
abbrev pub invariant-loop-index : goal.invariant-loop-index
invariant-loop-index l = l.places.items ≡ numbered 0 (take l.index l.children)
