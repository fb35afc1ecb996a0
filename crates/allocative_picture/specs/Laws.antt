-- The laws of pictures, as statements.
use Rattle.std.specs.Prelude.{◌≡◌, ℕ, ◌+◌, ◌*◌, ◌<◌, ◌≤◌, true, cond, List, [], ◌∷◌, ◌++◌, filter, flat_map, count_by}
use Rattle.std.specs.FinMap.{entries, contains_key}
use Rattle.allocative_graph.specs.Path.{Key, Path, is_same_path}
use Rattle.allocative_graph.specs.Graph.{Graph, total, total_at, sum_of, size_at}
use Rattle.allocative_picture.specs.declared.frame.Mark.{Mark}
use Rattle.allocative_picture.specs.Frames.{FrameData, frame_of}
use Rattle.allocative_picture.specs.Places.{IsDrawnFirst}
use Rattle.allocative_picture.specs.Views.{reversed}
use Rattle.allocative_picture.specs.declared.options.Order.{Order}
use Rattle.allocative_picture.specs.Boxes.{left_edge, right_edge, width, is_drawn, element}

-- The frame of a path of a graph.
abbrev pub frame_at : Order → (Path → Mark) → Graph → Path → FrameData
frame_at o M g p = frame_of o M g (p, size_at g p)

-- The second box lies within the first, from left to right.
pub record IsInside (all : ℕ) (outer inner : FrameData) : Type 0 where
  pub starts : left_edge all outer ≤ left_edge all inner
  pub ends : right_edge all inner ≤ right_edge all outer

-- The box of each path lies within the box of its parent, the path without its last key.
abbrev pub InsideLaw : Type 0
InsideLaw =
    (o : Order) (M : Path → Mark) (g : Graph) (p : Path) (k : Key)
    → IsInside (total g) (frame_at o M g p) (frame_at o M g (p ++ k ∷ []))

-- Of two boxes with one parent, the one that is drawn first, by key or by size, ends at or before the beginning of the
-- other.
abbrev pub ApartLaw : Type 0
ApartLaw = (o : Order) (M : Path → Mark) (g : Graph) (p : Path) (k l : Key)
    → IsDrawnFirst o (total_at g (p ++ k ∷ [])) (total_at g (p ++ l ∷ [])) k l
    → right_edge (total g) (frame_at o M g (p ++ k ∷ [])) ≤ left_edge (total g) (frame_at o M g (p ++ l ∷ []))

-- The width of a box differs from the share of its bytes, in units of a millionth of all, by less than one unit.
pub record IsShare (all : ℕ) (r : FrameData) : Type 0 where
  pub not_wider : width all r * all < r.whole * 1000000 + all
  pub not_narrower : r.whole * 1000000 < width all r * all + all

-- The width of each box is its share of all bytes, to less than one unit.
abbrev pub ShareLaw : Type 0
ShareLaw = (all : ℕ) (r : FrameData) → 0 < all → IsShare all r

-- No box extends past the right edge of the picture.
abbrev pub WithinLaw : Type 0
WithinLaw =
    (o : Order) (M : Path → Mark) (g : Graph) (p : Path) →
    0 < total g → right_edge (total g) (frame_at o M g p) ≤ 1000000

-- The boxes of some frames, one after another: the element of a frame, or no text if it has none.
abbrev pub boxes : ℕ → List ℕ → ℕ → List FrameData → List ℕ
boxes least unit all rs = flat_map (λ r. cond (is_drawn least all r) (element unit all r) []) rs

-- The boxes are the elements of the frames that are wide enough, each once and in the order of the frames.
abbrev pub BoxesLaw : Type 0
BoxesLaw =
    (least : ℕ) (unit : List ℕ) (all : ℕ) (rs : List FrameData)
    → boxes least unit all rs ≡ flat_map (element unit all) (filter (is_drawn least all) rs)

-- Each path of a graph occurs once among the graph's entries, from which the frames are made.
abbrev pub OnceLaw : Type 0
OnceLaw = (g : Graph) (p : Path) → contains_key g p ≡ true → count_by (λ e. is_same_path p e.0) (entries g) ≡ 1

-- The bytes of a path and all below it in the sum of two graphs are those in the two graphs together. So the box of a
-- change is as wide as its bytes before and after together.
abbrev pub ChangeLaw : Type 0
ChangeLaw = (g h : Graph) (p : Path) → total_at (sum_of g h) p ≡ total_at g p + total_at h p

-- Reversing the paths of a graph twice gives each path its bytes back.
abbrev pub ReverseLaw : Type 0
ReverseLaw = (g : Graph) (p : Path) → size_at (reversed (reversed g)) p ≡ size_at g p
