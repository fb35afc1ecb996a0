-- of write_line: the invariant of its loop
use Rattle.std.proofs.Common.{map, drop}
use Rattle.allocative_io.specs.Lines.{line_of}
use Rattle.allocative_io.specs.Streams.{IsWrittenUpTo}
use Rattle.allocative_io.proofs.write_line.Given as goal

-- The texts from this one on are what is left to write.
abbrev pub invariant-loop-text : goal.invariant-loop-text
invariant-loop-text g l = IsWrittenUpTo (g.W.Write.contents l.fn.output) (g.W.Write.contents l.output)
    (line_of (map (λ text. text.now) l.fn.texts)) (line_of (map (λ text. text.now) (drop l.text-index l.fn.texts)))
