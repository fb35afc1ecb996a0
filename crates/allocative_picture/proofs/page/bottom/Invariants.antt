-- of bottom: the invariant of its loop
use Rattle.std.proofs.Common.{◌≡◌, ◌≤◌, ◌^◌, map, take}
use Rattle.allocative_picture.proofs.Common.{frame_data, levels}
use Rattle.allocative_picture.proofs.page.bottom.Given as goal

-- The number of levels is that of the frames so far.
abbrev pub invariant-loop-frame : goal.invariant-loop-frame
invariant-loop-frame l =
    record { levels : l.levels ≡ levels (map frame_data (take l.frame-index l.frames)); bound : l.levels ≤ 2 ^ 64 }
