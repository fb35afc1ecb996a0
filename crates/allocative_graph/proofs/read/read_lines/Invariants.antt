-- of read_lines: what its loop keeps
use Rattle.std.proofs.Common.{◌≡◌, length, map}
use Rattle.allocative_graph.proofs.{Common.AreStacks, Common.line_stack, Text.texts}
use Rattle.allocative_graph.proofs.read.read_lines.Given as goal

-- So far the lines that came are counted, and their stacks are there.
abbrev pub invariant-loop-line : goal.invariant-loop-line
invariant-loop-line l = record {
  number : l.number ≡ length l.yielded;
  came : AreStacks (texts l.yielded) (map line_stack l.lines.items);
}
