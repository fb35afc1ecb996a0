-- of push_points: the invariant of its loop
use Rattle.std.proofs.Common.{◌≡◌, ◌++◌, drop, string_bytes}
use Rattle.allocative_picture.specs.History.{points}
use Rattle.allocative_picture.proofs.history.push_points.Given as goal

-- The points from this moment on are to be appended.
abbrev pub invariant-loop-number : goal.invariant-loop-number
invariant-loop-number l = string_bytes l.text ++ points l.scale l.unit l.number (drop l.number l.moments)
    ≡ string_bytes l.initial.text ++ points l.scale l.unit 0 l.moments
