-- of push_path_lines: the invariant of its loop
use Rattle.std.proofs.Common.{◌≡◌, ◌+◌, ◌++◌, drop, map, string_bytes}
use Rattle.allocative_picture.specs.History.{path_lines}
use Rattle.allocative_picture.specs.Table.{weight_of}
use Rattle.allocative_picture.proofs.history.push_path_lines.Given as goal

-- The lines from this path on are to be appended.
abbrev pub invariant-loop-index : goal.invariant-loop-index
invariant-loop-index l =
    string_bytes l.text ++ path_lines l.scale l.unit l.moments (l.index + 1) (map weight_of (drop l.index l.changed))
    ≡ string_bytes l.initial.text ++ path_lines l.scale l.unit l.moments 1 (map weight_of l.changed)
