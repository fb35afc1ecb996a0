-- of report: the invariant of its loop
use Rattle.std.proofs.Common.{◌≡◌, ◌++◌, flat_map, map, take, string_bytes}
use Rattle.allocative_service.specs.Changes.{change_data, line_of, total_line}
use Rattle.allocative_service.proofs.history.text.report.Given as goal

-- The total and the lines of the changes so far are written.
abbrev pub invariant-loop-change : goal.invariant-loop-change
invariant-loop-change l = string_bytes l.text ≡ total_line (map change_data l.changes)
    ++ flat_map line_of (map change_data (take l.change-index l.change-items))
