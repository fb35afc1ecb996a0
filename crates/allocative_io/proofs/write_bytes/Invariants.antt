-- of write_bytes: the invariant of its loop
use Rattle.allocative_io.specs.Streams.{IsWrittenUpTo}
use Rattle.allocative_io.proofs.write_bytes.Given as goal

-- The rest is what is left to write.
abbrev pub invariant-loop : goal.invariant-loop
invariant-loop g l = IsWrittenUpTo (g.W.Write.contents l.fn.output) (g.W.Write.contents l.output) l.fn.bytes l.rest
