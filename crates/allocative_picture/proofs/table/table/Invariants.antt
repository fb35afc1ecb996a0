-- of table: the invariant of its loop
use Rattle.std.proofs.Common.{◌≡◌, map, take, flat_map, string_bytes}
use Rattle.allocative_picture.specs.Table.{table_line, weight_of}
use Rattle.allocative_picture.proofs.table.table.Given as goal

-- The lines so far are written.
abbrev pub invariant-loop-line : goal.invariant-loop-line
invariant-loop-line l =
    string_bytes l.text ≡ flat_map (table_line l.all) (map weight_of (take l.line-index l.line-items))
