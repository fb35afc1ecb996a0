-- of plain_len: the invariant of its loop
use Rattle.std.proofs.Common.{◌≡◌, take}
use Rattle.allocative_io.specs.Lines.{printable}
use Rattle.allocative_io.proofs.plain_len.Given as goal

-- No byte before this one is a control character.
abbrev pub invariant-loop-at : goal.invariant-loop-at
invariant-loop-at l = printable (take l.at l.bytes) ≡ take l.at l.bytes
