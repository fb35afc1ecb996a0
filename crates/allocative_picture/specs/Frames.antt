-- What a frame shows, and the frames of a flame graph.
use Rattle.std.specs.Prelude.{ℕ, ◌+◌, ◌-◌, ◌++◌, Bool, cond, length, List, map, codes, ◌==◌, Option, None, Some}
use Rattle.std.specs.Prelude.{unwrap_or, slice_get}
use Rattle.std.specs.List.{list_any}
use Rattle.std.specs.FinMap.{entries}
use Rattle.allocative_graph.specs.Path.{Key, Path, is_same_path}
use Rattle.allocative_graph.specs.Graph.{Graph, Warned, total_at, size_at}
use Rattle.allocative_graph.specs.Rows.{Figures}
use Rattle.allocative_picture.specs.Places.{before_in}
use Rattle.allocative_picture.specs.declared.options.Order.{Order}
use Rattle.allocative_picture.specs.declared.frame.Frame.{Frame}
use Rattle.allocative_picture.specs.declared.frame.Mark.{Mark}
use Rattle.allocative_picture.specs.declared.frame.Mark.TheVariants.{Plain, Changed}
use Rattle.allocative_picture.specs.declared.frames.Marks.{Marks}
use Rattle.allocative_picture.specs.declared.frames.Marks.TheVariants as marks
use Rattle.allocative_picture.specs.declared.frame.Mark.TheVariants as mark

-- A frame whose key is a text, not a borrow.
pub record FrameData : Type 0 where
  pub depth : ℕ
  pub key : Key
  pub own : ℕ
  pub whole : ℕ
  pub before : ℕ
  pub mark : Mark

-- What a `Frame` of the code shows.
abbrev pub frame_data : Frame → FrameData
frame_data r =
    record { depth = r.depth; key = r.key.now; own = r.own; whole = r.whole; before = r.before; mark = r.mark }

-- The key that a picture shows for a path: the last one, and `all` for the root.
abbrev pub shown_key : Path → Key
shown_key p = unwrap_or (slice_get p (length p - 1)) (codes "all")

-- The frame of a path with its figures, if M gives the mark of each path, and `before` bytes come before it.
abbrev pub frame_from : (Path → Mark) → ℕ → Figures → FrameData
frame_from M before f = record {
  depth = length f.path;
  key = shown_key f.path;
  own = f.self_size;
  whole = f.total_size;
  before = before;
  mark = M f.path;
}

-- The bytes before an entry of g, if the children of each path are drawn in an order.
abbrev pub before_at : Order → Graph → Path → ℕ
before_at o g p = before_in o (total_at g) (entries g) p

-- The frame of an entry of g, if M gives the mark of each path, and children are drawn in an order.
abbrev pub frame_of : Order → (Path → Mark) → Graph → Path × ℕ → FrameData
frame_of o M g e =
    frame_from M (before_at o g e.0) (record { path = e.0; self_size = e.1; total_size = total_at g e.0 })

-- The frames of g: one for each path, in the order of paths. Each begins where the order of children places it.
unfoldable pub frames_of : Order → (Path → Mark) → Graph → List FrameData
frames_of o M g = map (frame_of o M g) (entries g)

-- The frame of an entry of g, if the keys ks are before its path, and b bytes before the first frame of g.
abbrev pub frame_behind : Order → (Path → Mark) → ℕ → Path → Graph → Path × ℕ → FrameData
frame_behind o M b ks g e =
    frame_from M (b + before_at o g e.0) (record { path = ks ++ e.0; self_size = e.1; total_size = total_at g e.0 })

-- Whether a path is one of those that have a warning.
unfoldable pub is_warned : List Warned → Path → Bool
is_warned ws p = list_any (λ w. is_same_path w.path p) ws

-- The mark of a path in a profile, if the paths ws have a warning.
abbrev pub warned_mark : List Warned → Path → Mark
warned_mark ws p = cond (is_warned ws p) mark.Warned Plain

-- The mark of a path with so many bytes of its own in the other graph, and so many with all below it.
abbrev pub mark_with : Marks → ℕ → ℕ → Mark
mark_with marks.Warned own whole = cond (own == 0) Plain mark.Warned
mark_with marks.Earlier own whole = Changed whole

-- The mark of a path, by its bytes in the graph g.
abbrev pub mark_by : Marks → Graph → Path → Mark
mark_by m g p = mark_with m (size_at g p) (total_at g p)

-- The own bytes of a path in a graph, if there is one, and otherwise none.
abbrev pub size_in : Option Graph → Path → ℕ
size_in None p = 0
size_in (Some g) p = size_at g p

-- The bytes of a path and of all paths below it in a graph, if there is one, and otherwise none.
abbrev pub total_in : Option Graph → Path → ℕ
total_in None p = 0
total_in (Some g) p = total_at g p

-- The mark of a path, by its bytes in a graph if there is one, and else by none.
abbrev pub mark_in : Marks → Option Graph → Path → Mark
mark_in m o p = mark_with m (size_in o p) (total_in o p)
