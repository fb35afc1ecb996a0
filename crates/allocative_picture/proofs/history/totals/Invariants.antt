-- of totals: the invariant of its loop
use Rattle.std.proofs.Common.{◌≡◌, take}
use Rattle.allocative_picture.specs.History.{totals}
use Rattle.allocative_picture.proofs.history.totals.Given as goal

-- The totals of the moments so far are there.
abbrev pub invariant-loop-moment : goal.invariant-loop-moment
invariant-loop-moment l = l.made.items ≡ totals (take l.moment-index l.moments)
