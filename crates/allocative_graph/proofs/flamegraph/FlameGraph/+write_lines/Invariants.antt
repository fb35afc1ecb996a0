-- of write_lines: what its loop keeps
use Rattle.std.proofs.Common.{◌≡◌, ◌++◌, flat_map, take, string_bytes}
use Rattle.allocative_graph.proofs.Common.{line_after, rows_of}
use Rattle.allocative_graph.proofs.flamegraph.FlameGraph.+write_lines.Given as goal

abbrev pub invariant-loop-child : goal.invariant-loop-child
invariant-loop-child l = record {
  start : string_bytes l.start ≡ string_bytes l.initial.start;
  text : string_bytes l.text ≡ string_bytes l.initial.text
      ++ flat_map (line_after (string_bytes l.initial.start)) (rows_of (take l.child-index l.child-items));
}
