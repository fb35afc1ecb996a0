-- Figures as texts, and the box of a frame: its place and its element.
use Rattle.std.specs.Prelude.{ℕ, ◌+◌, ◌-◌, ◌*◌, ◌/◌, ◌%◌, ◌==◌, ◌&&◌, ◌||◌, Bool, not, cond, nat_lt, max, length, List, []}
use Rattle.std.specs.Prelude.{◌∷◌, ◌++◌, codes, decimal, bytes_eq}
use Rattle.std.specs.List.{concat}
use Rattle.allocative_graph.specs.Path.{Key, fnv}
use Rattle.allocative_picture.specs.Escape.{escaped}
use Rattle.allocative_picture.specs.Frames.{FrameData}
use Rattle.allocative_picture.specs.declared.frame.Mark.{Mark}
use Rattle.allocative_picture.specs.declared.frame.Mark.TheVariants.{Plain, Warned, Changed}

-- ---- figures as texts
-- The greatest binary unit that n bytes reach, in bytes, and its name.
abbrev pub unit_of : ℕ → ℕ × List ℕ
unit_of n =
    cond (nat_lt n 0x400) (1, codes "B")
    (cond (nat_lt n 0x100000) (0x400, codes "KiB")
    (cond (nat_lt n 0x40000000) (0x100000, codes "MiB")
    (cond (nat_lt n 0x10000000000) (0x40000000, codes "GiB")
    (cond (nat_lt n 0x4000000000000) (0x10000000000, codes "TiB")
    (cond (nat_lt n 0x1000000000000000) (0x4000000000000, codes "PiB") (0x1000000000000000, codes "EiB"))))))

-- The greatest power of a thousand that n reaches, and its letter.
abbrev pub step_of : ℕ → ℕ × List ℕ
step_of n =
    cond (nat_lt n 1000) (1, [])
    (cond (nat_lt n 1000000) (1000, codes "k ")
    (cond (nat_lt n 1000000000) (1000000, codes "M ")
    (cond (nat_lt n 1000000000000) (1000000000, codes "G ")
    (cond (nat_lt n 1000000000000000) (1000000000000, codes "T ")
    (cond (nat_lt n 1000000000000000000) (1000000000000000, codes "P ") (1000000000000000000, codes "E "))))))

-- The number n in so great a step: a whole number if the step is 1, and otherwise with one decimal, rounded down.
unfoldable pub stepped : ℕ → ℕ → List ℕ
stepped n step =
    cond (nat_lt step 2) (decimal n) (decimal (n / step) ++ codes "." ++ decimal (n % step * 10 / step)) ++ codes " "

-- Bytes in their greatest binary unit, for example `1.5 KiB`.
unfoldable pub size_text : ℕ → List ℕ
size_text n = stepped n (unit_of n).0 ++ (unit_of n).1

-- Whether a unit is that of bytes.
abbrev pub is_bytes : List ℕ → Bool
is_bytes unit = bytes_eq unit (codes "bytes")

-- An amount in a unit: bytes in their greatest binary unit, and any other in its greatest power of a thousand, as
-- `1.2 M samples`.
unfoldable pub amount_text : List ℕ → ℕ → List ℕ
amount_text unit n = cond (is_bytes unit) (size_text n) (stepped n (step_of n).0 ++ (step_of n).1 ++ unit)

-- Whether an amount in a unit is also said in full.
abbrev pub is_also_in_full : List ℕ → ℕ → Bool
is_also_in_full unit n = is_bytes unit || not (nat_lt n 1000)

-- An amount in a unit, also in full, for example as `1.5 KiB (1536 bytes)`.
unfoldable pub full_text : List ℕ → ℕ → List ℕ
full_text unit n =
    amount_text unit n ++ cond (is_also_in_full unit n) (codes " (" ++ decimal n ++ codes " " ++ unit ++ codes ")") []

-- Millionths of all as a number of percent with two decimals, rounded down, for example `12.34`.
unfoldable pub percent_text : ℕ → List ℕ
percent_text u = decimal (u / 10000) ++ codes "." ++ decimal (u / 1000 % 10) ++ decimal (u / 100 % 10)

-- Millionths of the width in percent with four decimals, for example `12.3456%`.
unfoldable pub place_text : ℕ → List ℕ
place_text u = percent_text u ++ decimal (u / 10 % 10) ++ decimal (u % 10) ++ codes "%"

-- ---- where a box is placed
-- The place of a number of bytes on a line of a million units that stands for all bytes, rounded down. It is 0 if all
-- is 0.
abbrev pub edge : ℕ → ℕ → ℕ
edge all bytes = bytes * 1000000 / all

-- The left edge of a frame's box, in units.
abbrev pub left_edge : ℕ → FrameData → ℕ
left_edge all r = edge all r.before

-- The right edge of a frame's box, in units.
abbrev pub right_edge : ℕ → FrameData → ℕ
right_edge all r = edge all (r.before + r.whole)

-- The width of a frame's box, in units.
abbrev pub width : ℕ → FrameData → ℕ
width all r = right_edge all r - left_edge all r

-- Whether a frame has a box: its width is neither 0 nor less than the least width.
abbrev pub is_drawn : ℕ → ℕ → FrameData → Bool
is_drawn least all r = not (width all r == 0) && not (nat_lt (width all r) least)

-- ---- classes
-- The class of a change: `same`, `full` if the difference is more than half of the bytes before and after together,
-- and otherwise `moved`.
unfoldable pub change_class : ℕ → ℕ → List ℕ
change_class before after =
    cond (before == after) (codes "same")
    (cond (nat_lt (before + after) (2 * (after - before + (before - after)))) (codes "full") (codes "moved"))

-- The class of a path by its depth and its last key: `root`, `spare`, or one of twelve by the hash of the key. So a
-- key has the same colour in all pictures.
unfoldable pub key_class : ℕ → Key → List ℕ
key_class depth k =
    cond (depth == 0) (codes "root")
    (cond (bytes_eq k (codes "unused_capacity")) (codes "spare") (codes "k" ++ decimal (fnv k % 12)))

-- The class of a frame's box, by its mark.
unfoldable pub class_text : Mark → FrameData → List ℕ
class_text Plain r = key_class r.depth r.key
class_text Warned r = codes "warned"
class_text (Changed before) r = change_class before (r.whole - before)

-- The classes that hide texts, in a window of 1000 pixels: both texts in a box below 24 pixels, and otherwise the
-- figure if it may not fit beside a key of so many bytes. A key that does not fit ends at the edge of the box.
unfoldable pub fit_text : ℕ → ℕ → List ℕ
fit_text units bytes =
    cond (nat_lt units 24000) (codes " thin brief")
    (cond (nat_lt units (1000 * (8 * bytes + 120))) (codes " brief") [])

-- ---- colours of a change
-- One component of a colour. It is 236 if nothing changed, and reaches `full` when `change` is `all`.
abbrev pub shade : ℕ → ℕ → ℕ → ℕ
shade full change all = 236 - (236 - full) * change / all

-- The three components of the colour of a change, with commas between them.
abbrev pub colour_text : ℕ → ℕ → ℕ → ℕ → ℕ → List ℕ
colour_text red green blue change all =
    decimal (shade red change all) ++ codes "," ++ decimal (shade green change all) ++ codes ","
    ++ decimal (shade blue change all)

-- The paint of a change: red if bytes grew, blue if they shrank, and the fuller the greater the difference is
-- relative to the sum. There is none if nothing changed.
unfoldable pub change_paint : ℕ → ℕ → List ℕ
change_paint before after =
    cond (before == after) []
    (cond (nat_lt before after)
    (codes " style=\"fill:rgb(" ++ colour_text 214 40 40 (after - before) (before + after) ++ codes ")\"")
    (codes " style=\"fill:rgb(" ++ colour_text 29 95 191 (before - after) (before + after) ++ codes ")\""))

-- The paint of a frame's box, by its mark. There is none if the class gives the colour.
unfoldable pub paint_text : Mark → FrameData → List ℕ
paint_text Plain r = []
paint_text Warned r = []
paint_text (Changed before) r = change_paint before (r.whole - before)

-- ---- figures of a box
-- The difference between two amounts in a unit, with a sign.
unfoldable pub change_text : List ℕ → ℕ → ℕ → List ℕ
change_text unit before after =
    cond (before == after) (codes "unchanged")
    (cond (nat_lt before after) (codes "+" ++ amount_text unit (after - before))
    (codes "-" ++ amount_text unit (before - after)))

-- The figure after the key in a frame's box, by its mark.
unfoldable pub figure_text : List ℕ → Mark → FrameData → List ℕ
figure_text unit Plain r = amount_text unit r.whole
figure_text unit Warned r = amount_text unit r.whole
figure_text unit (Changed before) r = change_text unit before (r.whole - before)

-- The bytes of a path and all below it, their share of all in millionths, and the path's own bytes if they differ
-- from these.
unfoldable pub declared_text : List ℕ → ℕ → FrameData → List ℕ
declared_text unit u r =
    concat (full_text unit r.whole ∷ codes ", " ∷ percent_text u
    ∷ cond (r.own == r.whole) (codes "% of all") (codes "% of all\n" ++ full_text unit r.own ++ codes " of its own")
    ∷ [])

-- The amounts of a path in the earlier profile and in the later one, also in full.
unfoldable pub both_text : List ℕ → ℕ → ℕ → List ℕ
both_text unit before after =
    (amount_text unit before ++ codes " before, " ++ amount_text unit after ++ codes " after")
    ++ cond (is_also_in_full unit (max before after))
    (codes " (" ++ decimal before ++ codes " and " ++ decimal after ++ codes " " ++ unit ++ codes ")") []

-- The title of a frame's box after the key, by its mark, from the share of its bytes in millionths.
unfoldable pub title_text : List ℕ → ℕ → Mark → FrameData → List ℕ
title_text unit u Plain r = declared_text unit u r
title_text unit u Warned r = declared_text unit u r ++ codes "\ndeclared smaller than its parts: see the warnings"
title_text unit u (Changed before) r =
    both_text unit before (r.whole - before) ++ codes "\n" ++ change_text unit before (r.whole - before)

-- ---- the element
-- The beginning of a frame's box, a viewport that clips its texts.
unfoldable pub viewport : ℕ → FrameData → List ℕ
viewport all r =
    concat (codes "<svg class=\"b " ∷ class_text r.mark r ∷ fit_text (width all r) (length r.key)
    ∷ codes "\" x=\"" ∷ place_text (left_edge all r) ∷ codes "\" y=\"" ∷ decimal (54 + 18 * r.depth)
    ∷ codes "\" width=\"" ∷ place_text (width all r) ∷ codes "\" height=\"18\">" ∷ [])

-- The element of a frame's box: its beginning, the title with the key, the rectangle with its paint, and the label with
-- the key and the figure. The key stands there as markup, and so is the unit given.
unfoldable pub element : List ℕ → ℕ → FrameData → List ℕ
element unit all r =
    viewport all r
    ++ concat (codes "<title>" ∷ escaped r.key ∷ codes "\n" ∷ title_text unit (edge all r.whole) r.mark r
    ∷ codes "</title><rect width=\"100%\" height=\"100%\" rx=\"2\"" ∷ paint_text r.mark r
    ∷ codes "/><text x=\"4\" y=\"13\">" ∷ escaped r.key
    ∷ codes "<tspan class=\"n\" dx=\"8\">" ∷ figure_text unit r.mark r
    ∷ codes "</tspan></text></svg>\n" ∷ [])
