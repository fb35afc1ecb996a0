-- The picture of a history of profiles: their totals and the bytes of some paths as lines over time, and the picture of
-- the change from the first to the last.
use Rattle.std.specs.Prelude.{◌≡◌, ℕ, ◌+◌, ◌*◌, ◌-◌, ◌/◌, ◌%◌, zero, suc, List, [], ◌∷◌, ◌++◌, length, map, max}
use Rattle.std.specs.Prelude.{fold, codes, decimal, Option, None, Some, option_map, unwrap_or, slice_get}
use Rattle.std.specs.List.{concat}
use Rattle.allocative_graph.specs.Path.{Path}
use Rattle.allocative_graph.specs.Graph.{Graph, default, joined, size_at, total}
use Rattle.allocative_picture.specs.Escape.{escaped}
use Rattle.allocative_picture.specs.Boxes.{edge, full_text, place_text}
use Rattle.allocative_picture.specs.Frames.{FrameData}
use Rattle.allocative_picture.specs.Picture.{change_frames, change_of, content_of, height_of, opening, subject_text, wide_of}
use Rattle.allocative_picture.specs.Table.{IsTop, changes}
use Rattle.allocative_picture.specs.declared.fixed.TheConstants.{CHANGE, CHART, CLOSING}
use Rattle.allocative_picture.specs.declared.history.Moment.{Moment}
use Rattle.allocative_picture.specs.declared.history.Scale.{Scale}
use Rattle.allocative_picture.specs.declared.options.Options.{Options}
use Rattle.allocative_picture.specs.declared.page.Subject.TheVariants.{Change}

-- ---- the moments
-- The graph of the moment with the number i, and the graph without bytes if there is none.
abbrev pub graph_at : List Moment → ℕ → Graph
graph_at ms i = unwrap_or (option_map (λ (m : Moment). m.graph) (slice_get ms i)) default

-- The graph of the first moment.
abbrev pub first_graph : List Moment → Graph
first_graph ms = graph_at ms 0

-- The graph of the last moment.
abbrev pub last_graph : List Moment → Graph
last_graph ms = graph_at ms (length ms - 1)

-- The name of a moment, and no text if there is none.
abbrev pub name_of : Option Moment → List ℕ
name_of None = []
name_of (Some m) = m.name.now

-- The total of each moment.
abbrev pub totals : List Moment → List ℕ
totals ms = map (λ (m : Moment). total m.graph) ms

-- The own bytes of a path in each moment.
abbrev pub sizes : Path → List Moment → List ℕ
sizes p ms = map (λ (m : Moment). size_at m.graph p) ms

-- ---- the scale
-- The greatest of some numbers, and 0 if there is none.
abbrev pub greatest : List ℕ → ℕ
greatest ns = fold max 0 ns

-- The first of some numbers, and 0 if there is none.
abbrev pub first_of : List ℕ → ℕ
first_of ns = unwrap_or (slice_get ns 0) 0

-- The last of some numbers, and 0 if there is none.
abbrev pub last_of : List ℕ → ℕ
last_of ns = unwrap_or (slice_get ns (length ns - 1)) 0

-- The scale of a chart: the moments are as far apart as one another, and the greatest total is at the top.
abbrev pub scale_of : List Moment → Scale
scale_of ms = record { last = length ms - 1; top = greatest (totals ms) }

-- The place of the moment with the number i: 0% for the first one, and 100% for the last one of several.
abbrev pub x_text : Scale → ℕ → List ℕ
x_text s i = place_text (edge s.last i)

-- The height of so many bytes in pixels from the top: 150 for none, and 0 for the greatest total.
abbrev pub y_of : Scale → ℕ → ℕ
y_of s bytes = 150 - bytes * 150 / s.top

-- ---- the lines
-- The part of a line that ends at the moment with the number i, from so many bytes at the moment before to so many at
-- this one. That of the first moment is a dot.
unfoldable pub segment : Scale → ℕ → ℕ → ℕ → List ℕ
segment s i was bytes =
    concat (codes "<line x1=\"" ∷ x_text s (i - 1) ∷ codes "\" y1=\"" ∷ decimal (y_of s was)
    ∷ codes "\" x2=\"" ∷ x_text s i ∷ codes "\" y2=\"" ∷ decimal (y_of s bytes) ∷ codes "\"/>\n" ∷ [])

-- The parts of a line that end at the moments from number i on, after so many bytes at the moment before.
abbrev pub segments : Scale → ℕ → ℕ → List ℕ → List ℕ
segments s i was [] = []
segments s i was (bytes ∷ ns) = segment s i was bytes ++ segments s (i + 1) bytes ns

-- The number of the colour of the line with the number i: 0 for the total, which is the first line, and one of eight
-- for the others.
abbrev pub colour_of : ℕ → ℕ
colour_of zero = 0
colour_of (suc i) = 1 + i % 8

-- The row of the line with the number i in the legend, from its first and its last bytes: its colour, these, and its
-- name.
unfoldable pub row : List ℕ → ℕ → List ℕ → ℕ → ℕ → List ℕ
row unit i name before after =
    concat (codes "<svg y=\"" ∷ decimal (178 + 16 * i)
    ∷ codes "\" height=\"16\"><line x1=\"3\" x2=\"14\" y1=\"8\" y2=\"8\"/><text class=\"row\" x=\"20\" y=\"12\">"
    ∷ subject_text unit (Change before after) ∷ codes "<tspan dx=\".7em\">" ∷ name
    ∷ codes "</tspan></text></svg></g>\n" ∷ [])

-- The line with the number i through some bytes, and its row in the legend. The name is markup, and so is the unit.
unfoldable pub line : Scale → List ℕ → ℕ → List ℕ → List ℕ → List ℕ
line s unit i name ns =
    concat (codes "<g class=\"line l" ∷ decimal (colour_of i) ∷ codes "\"><title>" ∷ name ∷ codes "</title>\n" ∷ [])
    ++ segments s 0 (first_of ns) ns ++ row unit i name (first_of ns) (last_of ns)

-- The line with the number i, of a path through its own bytes in each moment.
abbrev pub path_line : Scale → List ℕ → List Moment → ℕ → Path × ℕ → List ℕ
path_line s unit ms i e = line s unit i (escaped (joined e.0)) (sizes e.0 ms)

-- The lines of some paths, with numbers from i on.
abbrev pub path_lines : Scale → List ℕ → List Moment → ℕ → List (Path × ℕ) → List ℕ
path_lines s unit ms i [] = []
path_lines s unit ms i (e ∷ es) = path_line s unit ms i e ++ path_lines s unit ms (i + 1) es

-- The point of the total of the moment with the number i, with a title.
unfoldable pub point : Scale → List ℕ → ℕ → Moment → List ℕ
point s unit i m =
    concat (codes "<circle cx=\"" ∷ x_text s i ∷ codes "\" cy=\"" ∷ decimal (y_of s (total m.graph))
    ∷ codes "\" r=\"4\"><title>" ∷ escaped m.name.now ∷ codes "\n" ∷ full_text unit (total m.graph)
    ∷ codes "</title></circle>\n" ∷ [])

-- The points of the totals of some moments, with numbers from i on.
abbrev pub points : Scale → List ℕ → ℕ → List Moment → List ℕ
points s unit i [] = []
points s unit i (m ∷ ms) = point s unit i m ++ points s unit (i + 1) ms

-- ---- the chart
-- The title above a chart of n moments, the greatest total, and the beginning of the chart with its frame.
unfoldable pub chart_heading : List ℕ → List ℕ → ℕ → ℕ → List ℕ
chart_heading title unit n top =
    concat (codes "<text class=\"title\" x=\"8\" y=\"22\">" ∷ title
    ∷ codes "</text>\n<text class=\"sum\" x=\"8\" y=\"42\">Profiles: " ∷ decimal n ∷ codes ", the greatest total: "
    ∷ full_text unit top ∷ codes "</text>\n" ∷ CHART.now ∷ [])

-- The names of the first and the last moment, below the first and the last point, and the end of the chart.
unfoldable pub names : List Moment → List ℕ
names ms =
    concat (codes "<svg y=\"154\" width=\"49%\" height=\"18\"><text class=\"sum\" y=\"12\">"
    ∷ escaped (name_of (slice_get ms 0))
    ∷ codes "</text></svg>\n<svg x=\"51%\" y=\"154\" width=\"49%\" height=\"18\"><text class=\"sum\" x=\"100%\""
    ∷ codes " y=\"12\" text-anchor=\"end\">" ∷ escaped (name_of (slice_get ms (length ms - 1)))
    ∷ codes "</text></svg>\n</svg>\n" ∷ [])

-- The chart of some moments with the lines of some paths: its heading, the line of the total, those of the paths, the
-- points of the totals, and the names. The title is markup, and so is the unit.
unfoldable pub chart : List ℕ → List ℕ → List (Path × ℕ) → List Moment → List ℕ
chart title unit top ms =
    let s = scale_of ms in
    chart_heading title unit (length ms) s.top ++ line s unit 0 (codes "all") (totals ms)
    ++ path_lines s unit ms 1 top ++ points s unit 0 ms
    ++ names ms

-- ---- the picture
-- The place of the picture of the change in pixels from the top, below a chart with the lines of n paths.
abbrev pub place_below : ℕ → ℕ
place_below n = 262 + 16 * n

-- The beginning of the picture of the change, at a place and with a height in pixels.
unfoldable pub inner_opening : ℕ → ℕ → List ℕ
inner_opening place height =
    concat (codes "<svg y=\"" ∷ decimal place ∷ codes "\" height=\"" ∷ decimal height ∷ codes "\">\n" ∷ [])

-- The picture of a history, if the frames are those of the change from the first to the last moment that have a box, of
-- n paths: the chart, with the lines of the paths `top`, and the picture of the change.
unfoldable pub history_of : Options → List (Path × ℕ) → List Moment → List FrameData → ℕ → List ℕ
history_of o top ms ws n =
    let s = change_of (first_graph ms) (last_graph ms) in
    let place = place_below (length top) in
    opening (place + height_of s o ws) (escaped o.title.now)
    ++ chart (escaped o.title.now) (escaped o.unit.now) top ms
    ++ inner_opening place (height_of s o ws)
    ++ content_of CHANGE.now s o ws n
    ++ CLOSING.now ++ codes "</svg>\n"

-- The picture of a history with the lines of some paths.
abbrev pub history_drawing : Options → List (Path × ℕ) → List Moment → List ℕ
history_drawing o top ms =
    let g = first_graph ms in
    let h = last_graph ms in
    let rs = change_frames o g h in
    history_of o top ms (wide_of (change_of g h) o rs) (length rs)

-- The text is the picture of a history with a line for each of the n paths that grew or shrank most from the first to
-- the last moment by their own size, and for no path that did neither.
abbrev pub IsHistoryPicture : Options → ℕ → List Moment → List ℕ → Type 0
IsHistoryPicture o n ms made = (top : List (Path × ℕ))
    × IsTop n (changes (first_graph ms) (last_graph ms)) top × (made ≡ history_drawing o top ms)
