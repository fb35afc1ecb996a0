-- of write_printable: the invariant of its loop and its recursion ends
use Rattle.std.proofs.Common.{length}
use Rattle.allocative_io.specs.Lines.{printable}
use Rattle.allocative_io.specs.Streams.{IsWrittenUpTo}
use Rattle.allocative_io.proofs.write_printable.Given as goal

-- The rest is what is left to write.
abbrev pub invariant-loop-byte : goal.invariant-loop-byte
invariant-loop-byte g l = IsWrittenUpTo (g.W.Write.contents l.fn.output)
    (g.W.Write.contents l.output) (printable l.fn.text) (printable l.rest)

abbrev pub decreases-loop-byte : goal.decreases-loop-byte
decreases-loop-byte g l = length l.rest
