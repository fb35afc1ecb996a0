-- of push_warnings: the invariant of its loop
use Rattle.std.proofs.Common.{◌≡◌, ◌+◌, ◌*◌, ◌++◌, map, drop, string_bytes}
use Rattle.allocative_picture.proofs.Common.{warning_lines, warning_of}
use Rattle.allocative_picture.proofs.page.push_warnings.Given as goal

-- The warnings of the paths from this one on are to be appended.
abbrev pub invariant-loop-one : goal.invariant-loop-one
invariant-loop-one l = record {
  height : l.y ≡ l.initial.y + 16 * l.one-index;
  rest : string_bytes l.text ++ warning_lines l.y (map warning_of (drop l.one-index l.warned))
      ≡ string_bytes l.initial.text ++ warning_lines l.initial.y (map warning_of l.warned);
}
