-- of push_boxes: the invariant of its loop
use Rattle.std.proofs.Common.{◌≡◌, ◌++◌, map, take, flat_map, string_bytes}
use Rattle.allocative_picture.proofs.Common.{frame_data, element}
use Rattle.allocative_picture.proofs.page.push_boxes.Given as goal

-- The boxes of the frames so far have been appended.
abbrev pub invariant-loop-frame : goal.invariant-loop-frame
invariant-loop-frame l = string_bytes l.text ≡ string_bytes l.initial.text
    ++ flat_map (element l.unit l.all) (map frame_data (take l.frame-index l.frames))
