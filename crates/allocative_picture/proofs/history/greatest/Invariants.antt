-- of greatest: the invariant of its loop
use Rattle.std.proofs.Common.{◌≡◌, take}
use Rattle.allocative_picture.specs.History.{greatest}
use Rattle.allocative_picture.proofs.history.greatest.Given as goal

-- The greatest of the numbers so far.
abbrev pub invariant-loop-number : goal.invariant-loop-number
invariant-loop-number l = l.most ≡ greatest (take l.number-index l.numbers)
