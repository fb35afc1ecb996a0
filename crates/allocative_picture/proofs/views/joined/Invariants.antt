-- of joined: what its loop keeps
use Rattle.std.proofs.Common.{◌≡◌, length}
use Rattle.allocative_picture.specs.Views.{joined}
use Rattle.allocative_picture.proofs.views.joined.Given as goal

-- The graphs that wait add up to that of all.
abbrev pub invariant-loop-child : goal.invariant-loop-child
invariant-loop-child l = joined l.waiting.items ≡ joined l.initial.waiting.items

abbrev pub decreases-loop-child : goal.decreases-loop-child
decreases-loop-child l = length l.waiting.items
