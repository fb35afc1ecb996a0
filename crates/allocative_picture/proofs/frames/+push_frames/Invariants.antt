-- of push_frames: its recursion ends and the invariant of its loop
use Rattle.std.proofs.Common.{◌≡◌, ◌++◌, map, take, filter}
use Rattle.allocative_picture.proofs.Common.{len, frame_data, frame_behind, is_drawn, mark_by, texts}
use Rattle.allocative_graph.specs.Rows.{rows_of}
use Rattle.allocative_picture.proofs.frames.+push_frames.Given as goal

-- Each call is for a graph with fewer paths.
abbrev pub decreases-push_frames : goal.decreases-push_frames
decreases-push_frames l = len l.graph.now

-- The wide frames of the root and of the children before this one are there.
abbrev pub invariant-loop-index : goal.invariant-loop-index
invariant-loop-index l = record {
  path : l.path.items ≡ l.fn.path.items;
  frames : map frame_data l.frames.items ≡ map frame_data l.initial.frames.items
      ++ filter (is_drawn l.shown.least l.shown.all)
      (map (frame_behind l.shown.order (mark_by l.shown.marks l.shown.other.now) l.before
      (texts l.fn.path.items) l.graph)
      (rows_of (take l.index l.children)));
}
