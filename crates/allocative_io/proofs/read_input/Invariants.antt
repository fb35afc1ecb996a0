-- of read_input: the invariant of its loop
use Rattle.std.specs.Io.KnownBytes.{Consumes}
use Rattle.allocative_io.proofs.read_input.Given as goal

-- The bytes so far are what the reader gave.
abbrev pub invariant-loop : goal.invariant-loop
invariant-loop g l = Consumes (g.R.Read.remaining l.fn.input) (g.R.Read.remaining l.input) l.bytes.items
