-- of draw: the invariant of its loop
use Rattle.std.proofs.Common.{◌≡◌, map, take, filter}
use Rattle.allocative_picture.proofs.Common.{frame_data, is_drawn, all_of}
use Rattle.allocative_picture.proofs.picture.draw.Given as goal

-- Of the frames so far those that are wide enough are kept.
abbrev pub invariant-loop-frame : goal.invariant-loop-frame
invariant-loop-frame l = map frame_data l.wide.items
    ≡ filter (is_drawn l.options.narrowest (all_of l.subject)) (map frame_data (take l.frame-index l.frames))
