-- The lines of the paths so far.
use Rattle.std.proofs.Common.{◌≡◌, map, take, string_bytes}
use Rattle.allocative_collectors.proofs.Common.{warning_of, warning_lines}
use Rattle.allocative_collectors.proofs.output.warning_lines.Given as goal

abbrev pub invariant-loop-one : goal.invariant-loop-one
invariant-loop-one l = string_bytes l.text ≡ warning_lines (map warning_of (take l.one-index l.warned))
