-- of sizes: the invariant of its loop
use Rattle.std.proofs.Common.{◌≡◌, take}
use Rattle.allocative_picture.proofs.Common.{texts}
use Rattle.allocative_picture.specs.History.{sizes}
use Rattle.allocative_picture.proofs.history.sizes.Given as goal

-- The bytes of the path in the moments so far are there.
abbrev pub invariant-loop-moment : goal.invariant-loop-moment
invariant-loop-moment l = l.made.items ≡ sizes (texts l.path) (take l.moment-index l.moments)
