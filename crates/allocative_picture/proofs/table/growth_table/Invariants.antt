-- of growth_table: the invariant of its loop
use Rattle.std.proofs.Common.{◌≡◌, map, take, flat_map, string_bytes}
use Rattle.allocative_picture.specs.Table.{growth_line, weight_of}
use Rattle.allocative_picture.proofs.table.growth_table.Given as goal

-- The lines so far are written.
abbrev pub invariant-loop-line : goal.invariant-loop-line
invariant-loop-line l = string_bytes l.text
    ≡ flat_map (growth_line l.size l.before l.after l.all) (map weight_of (take l.line-index l.line-items))
