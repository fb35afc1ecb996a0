-- of push_segments: the invariant of its loop
use Rattle.std.proofs.Common.{◌≡◌, ◌++◌, drop, string_bytes}
use Rattle.allocative_picture.specs.History.{segments}
use Rattle.allocative_picture.proofs.history.push_segments.Given as goal

-- The parts from this moment on are to be appended.
abbrev pub invariant-loop-number : goal.invariant-loop-number
invariant-loop-number l = string_bytes l.text ++ segments l.scale l.number l.was (drop l.number l.sizes)
    ≡ string_bytes l.initial.text ++ segments l.scale 0 l.first l.sizes
