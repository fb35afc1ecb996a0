-- Pictures as the text of an SVG document.
use Rattle.std.specs.Prelude.{ℕ, ◌+◌, ◌*◌, List, ◌++◌, length, map, filter, flat_map, ◌-◌, ◌==◌, max, cond, [], ◌∷◌}
use Rattle.std.specs.Prelude.{fold, codes, decimal}
use Rattle.allocative_graph.specs.Graph.{Graph, total, sum_of, Warned, warning_text}
use Rattle.allocative_collectors.specs.Warned.{warning_of}
use Rattle.allocative_picture.specs.Escape.{escaped}
use Rattle.allocative_picture.specs.Frames.{FrameData, frames_of, warned_mark, mark_by}
use Rattle.allocative_picture.specs.Boxes.{is_drawn, element, both_text, change_text, full_text, is_bytes}
use Rattle.allocative_picture.specs.declared.fixed.TheConstants.{CLOSING, STYLE, TOOLS, LEGEND}
use Rattle.allocative_picture.specs.declared.options.Options.{Options}
use Rattle.allocative_picture.specs.declared.frames.Marks.TheVariants.{Earlier}
use Rattle.allocative_picture.specs.declared.page.Subject.{Subject}
use Rattle.allocative_picture.specs.declared.page.Subject.TheVariants.{Profile, Change}
use Rattle.std.specs.List.{concat}

-- The bytes that the whole width stands for.
abbrev pub all_of : Subject → ℕ
all_of (Profile bytes) = bytes
all_of (Change before after) = before + after

-- The legend of the colours of a change and its height in pixels. A profile has none.
abbrev pub legend_of : Subject → List ℕ × ℕ
legend_of (Profile bytes) = ([], 0)
legend_of (Change before after) = (LEGEND.now, 16)

-- The totals of the subject of a picture, in a unit.
unfoldable pub subject_text : List ℕ → Subject → List ℕ
subject_text unit (Profile bytes) = full_text unit bytes ++ cond (is_bytes unit) (codes " declared") (codes " in all")
subject_text unit (Change before after) = both_text unit before after ++ codes ", " ++ change_text unit before after

-- The number of levels of boxes that some frames need.
unfoldable pub levels : List FrameData → ℕ
levels rs = fold (λ n r. max n (r.depth + 1)) 0 rs

-- The beginning of a picture of some height, with the style and the title of the document.
unfoldable pub opening : ℕ → List ℕ → List ℕ
opening height title =
    concat (codes "<svg xmlns=\"http://www.w3.org/2000/svg\" width=\"100%\" height=\"" ∷ decimal height
    ∷ codes "\" font-size=\"12\">\n" ∷ STYLE.now ∷ codes "<title>" ∷ title ∷ codes "</title>\n" ∷ [])

-- What helps against n paths without a box, if there are any: a lower `Options.narrowest`, and `outline`.
abbrev pub narrow_hint : ℕ → List ℕ
narrow_hint n = cond (n == 0) [] (codes ": lower `narrowest`, or draw an `outline`")

-- The title above a picture, the totals, the number of paths with a box, the number of the others, which are too
-- narrow for one, and the labels that the script makes clickable.
unfoldable pub heading : List ℕ → List ℕ → Subject → ℕ → ℕ → List ℕ
heading title unit s drawn paths =
    concat (codes "<text class=\"title\" x=\"8\" y=\"22\">" ∷ title
    ∷ codes "</text>\n<text class=\"sum say\" x=\"8\" y=\"42\">" ∷ subject_text unit s ∷ codes "; " ∷ decimal drawn
    ∷ codes " paths drawn, " ∷ decimal (paths - drawn) ∷ codes " too narrow even for zoom" ∷ narrow_hint (paths - drawn)
    ∷ codes "</text>\n" ∷ TOOLS.now ∷ [])

-- The line of a path's warning at a height.
unfoldable pub warning_line : ℕ → Warned → List ℕ
warning_line y w =
    concat (codes "<text class=\"warn\" x=\"8\" y=\"" ∷ decimal y ∷ codes "\">" ∷ escaped (warning_text w) ∷ codes
    "</text>\n" ∷ [])

-- The lines of the warnings of some paths, one below the other, with the first at a height.
abbrev pub warning_lines : ℕ → List Warned → List ℕ
warning_lines y [] = []
warning_lines y (w ∷ ws) = warning_line y w ++ warning_lines (y + 16) ws

-- A height in pixels: ten pixels below the lowest box.
abbrev pub bottom : List FrameData → ℕ
bottom ws = 64 + 18 * levels ws

-- The height in pixels of the picture of the frames that have a box.
abbrev pub height_of : Subject → Options → List FrameData → ℕ
height_of s o ws = bottom ws + 8 + 16 * length o.warned.now + (legend_of s).1

-- What stands between the beginning and the end of the picture of n paths, if the frames are those that have a box: the
-- heading, the legend, the boxes and the warnings. The title is markup.
unfoldable pub content_of : List ℕ → Subject → Options → List FrameData → ℕ → List ℕ
content_of title s o ws n =
    heading title (escaped o.unit.now) s (length ws) n ++ (legend_of s).0
    ++ flat_map (element (escaped o.unit.now) (all_of s)) ws
    ++ warning_lines (bottom ws + 14) (map warning_of o.warned.now)

-- The picture of n paths, if the frames are those that have a box.
unfoldable pub drawing_of : Subject → Options → List FrameData → ℕ → List ℕ
drawing_of s o ws n =
    opening (height_of s o ws) (escaped o.title.now) ++ content_of (escaped o.title.now) s o ws n ++ CLOSING.now

-- Those of some frames that are wide enough for a box.
abbrev pub wide_of : Subject → Options → List FrameData → List FrameData
wide_of s o rs = filter (is_drawn o.narrowest (all_of s)) rs

-- The picture of some frames, one for each path.
abbrev pub drawing : Subject → Options → List FrameData → List ℕ
drawing s o rs = drawing_of s o (wide_of s o rs) (length rs)

-- The picture of a flame graph is drawn from its frames, and marks the paths that have a warning.
abbrev pub profile_drawing : Options → Graph → List ℕ
profile_drawing o g = drawing (Profile (total g)) o (frames_of o.order (warned_mark (map warning_of o.warned.now)) g)

-- The subject of the picture of the change from g to h.
abbrev pub change_of : Graph → Graph → Subject
change_of g h = Change (total g) (total h)

-- The frames of the change from g to h: those of their sum, each marked with its bytes in g.
abbrev pub change_frames : Options → Graph → Graph → List FrameData
change_frames o g h = frames_of o.order (mark_by Earlier g) (sum_of g h)

-- The picture of the change from g to h.
abbrev pub change_drawing : Options → Graph → Graph → List ℕ
change_drawing o g h = drawing (change_of g h) o (change_frames o g h)
