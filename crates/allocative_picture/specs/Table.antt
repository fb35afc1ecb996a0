-- The heaviest paths of a graph, and those that grew most, as texts.
use Rattle.std.specs.Prelude.{◌≡◌, ℕ, ◌-◌, ◌≤◌, ◌<◌, ◌==◌, ◌&&◌, Bool, cond, List, [], ◌∷◌, ◌++◌, flat_map, codes, decimal, false, map}
use Rattle.std.specs.Prelude.{take, length, filter, nat_lt, sum_by, count_by, AllPairs, IsPermutation, Option, Some}
use Rattle.std.specs.Ordering.{nat_cmp, ordering_then, is_lt}
use Rattle.std.specs.declared.cmp.Ordering.{Ordering}
use Rattle.std.specs.List.{All}
use Rattle.std.specs.Cmp.Lexicographic.{slice_cmp}
use Rattle.std.specs.BinaryHeap.{IsHeap, KeepsHeap, heap_items}
use Rattle.std.specs.declared.collections.BinaryHeap.{BinaryHeap}
use Rattle.std.specs.declared.alloc.Global.{Global}
use Rattle.std.specs.FinMap.{entries}
use Rattle.allocative_graph.specs.Path.{Path, path_cmp, is_one_below, texts}
use Rattle.allocative_graph.specs.Graph.{Graph, joined, size_at, total, total_at}
use Rattle.allocative_picture.specs.Boxes.{edge, percent_text}
use Rattle.allocative_picture.specs.Frames.{size_in, total_in}
use Rattle.allocative_picture.specs.declared.table.Heavy.{Heavy}
use Rattle.allocative_picture.specs.declared.table.Size.{Size}
use Rattle.allocative_picture.specs.declared.table.Size.TheVariants.{Own, Total}

-- Paths with as many bytes are in the order of paths; otherwise the path with more bytes comes first.
abbrev pub weight_cmp : Path × ℕ → Path × ℕ → Ordering
weight_cmp e f = ordering_then (nat_cmp f.1 e.1) (path_cmp e.0 f.0)

-- The second path does not come before the first.
abbrev pub IsNotAfter : Path × ℕ → Path × ℕ → Type 0
IsNotAfter e f = is_lt (weight_cmp f e) ≡ false

-- ---- which bytes count
-- The bytes of a path that a table is by: its own, or those of it and of all paths below it.
abbrev pub size_of : Size → Graph → Path → ℕ
size_of Own g p = size_at g p
size_of Total g p = total_at g p

-- Those bytes in a graph, if there is one, and otherwise none.
abbrev pub size_before : Size → Option Graph → Path → ℕ
size_before Own o p = size_in o p
size_before Total o p = total_in o p

-- How many paths of g have one key more than p.
abbrev pub children_at : Graph → Path → ℕ
children_at g p = count_by (λ e. is_one_below p e.0) (entries g)

-- Whether a table passes over a path: by total size one that has no bytes of its own and one child only, which has all
-- its bytes.
abbrev pub is_passed_over : Size → Graph → Path → Bool
is_passed_over Own g p = false
is_passed_over Total g p = (size_at g p == 0) && (children_at g p == 1)

-- The bytes that a table shows of a path of g. Those that it passes over have none.
abbrev pub weight_in : Size → Graph → Path → ℕ
weight_in s g p = cond (is_passed_over s g p) 0 (size_of s g p)

-- By how many bytes a path of g grew since an earlier graph, if there is one. What shrank or is passed over has none.
abbrev pub growth_in : Size → Option Graph → Graph → Path → ℕ
growth_in s o g p = cond (is_passed_over s g p) 0 (size_of s g p - size_before s o p)

-- The paths of some entries, each with what f gives it.
abbrev pub weighed : (Path → ℕ) → List (Path × ℕ) → List (Path × ℕ)
weighed f es = map (λ e. (e.0, f e.0)) es

-- The paths of g with the bytes that a table shows of them.
abbrev pub weights : Size → Graph → List (Path × ℕ)
weights s g = weighed (weight_in s g) (entries g)

-- The paths of g with the bytes by which they grew.
abbrev pub growths : Size → Option Graph → Graph → List (Path × ℕ)
growths s o g = weighed (growth_in s o g) (entries g)

-- The paths of g and those of h with the bytes by which they grew or shrank from g to h by their own size. A path of
-- both did one of the two at most.
abbrev pub changes : Graph → Graph → List (Path × ℕ)
changes g h = growths Own (Some g) h ++ growths Own (Some h) g

-- The bytes by which paths grew by their own size, all together.
abbrev pub grown : Option Graph → Graph → ℕ
grown o g = sum_by (λ e. e.1) (growths Own o g)

-- ---- the texts
-- The paths `top` are the first n of the paths es if the heaviest come first, and of as heavy ones the first path.
-- Those without bytes are left out.
pub record IsTop (n : ℕ) (es top : List (Path × ℕ)) : Type 0 where
  pub rows : List (Path × ℕ)
  pub same : IsPermutation es rows
  pub falling : AllPairs IsNotAfter rows
  pub is : top ≡ filter (λ e. nat_lt 0 e.1) (take n rows)

-- The line of a path with bytes: their share of all in percent, a tab, the bytes, a tab, the keys joined by `;`, and a
-- line feed.
abbrev pub table_line : ℕ → Path × ℕ → List ℕ
table_line all e = (percent_text (edge all e.1) ++ codes "%\t" ++ decimal e.1 ++ codes "\t") ++ joined e.0 ++ 10 ∷ []

-- The share of a growth, a tab, the growth, a tab, the bytes before, a tab, those after, and a tab.
unfoldable pub growth_text : ℕ → ℕ → ℕ → ℕ → List ℕ
growth_text all grew before after = percent_text (edge all grew) ++ codes "%\t" ++ decimal grew ++ codes "\t"
    ++ decimal before ++ codes "\t" ++ decimal after ++ codes "\t"

-- The line of a path that grew from g to h: its growth, the keys joined by `;`, and a line feed.
abbrev pub growth_line : Size → Graph → Graph → ℕ → Path × ℕ → List ℕ
growth_line s g h all e = growth_text all e.1 (size_of s g e.0) (size_of s h e.0) ++ joined e.0 ++ 10 ∷ []

-- The text has a line for each of the n heaviest paths of g, and for no path without bytes.
abbrev pub IsTable : Size → ℕ → Graph → List ℕ → Type 0
IsTable s n g made = (top : List (Path × ℕ)) × IsTop n (weights s g) top × (made ≡ flat_map (table_line (total g)) top)

-- The text has a line for each of the n paths that grew most from g to h, and for no path that did not grow.
abbrev pub IsGrowthTable : Size → ℕ → Graph → Graph → List ℕ → Type 0
IsGrowthTable s n g h made = (top : List (Path × ℕ)) × IsTop n (growths s (Some g) h) top
    × (made ≡ flat_map (growth_line s g h (grown (Some g) h)) top)

-- ---- how it is made
-- What a contract sees of a heavy path.
abbrev pub weight_of : Heavy → Path × ℕ
weight_of h = (texts h.path.items, h.bytes.0)

-- The entries es with the keys ks before each path.
abbrev pub behind : Path → List (Path × ℕ) → List (Path × ℕ)
behind ks es = map (λ e. (ks ++ e.0, e.1)) es

-- Of the paths es, these are at most n with bytes, and no other comes before one of them. If they are fewer, no other
-- has bytes.
pub record AreHeaviest (n : ℕ) (es : List (Path × ℕ)) (kept : List (Path × ℕ)) : Type 0 where
  pub rest : List (Path × ℕ)
  pub same : IsPermutation es (kept ++ rest)
  pub within : length kept ≤ n
  pub heavy : All (λ e. 0 < e.1) kept
  pub after : All (λ f. All (λ e. IsNotAfter e f) kept) rest
  pub empty : length kept < n → All (λ f. f.1 ≡ 0) rest

-- The order of a heap.
abbrev pub heavy_cmp : Heavy → Heavy → Ordering
heavy_cmp x y = ordering_then (nat_cmp y.bytes.0 x.bytes.0)
    (slice_cmp (λ k l. slice_cmp nat_cmp k.now l.now) x.path.items y.path.items)

-- What a contract sees of a heap.
abbrev pub weights_of : BinaryHeap Heavy Global → List (Path × ℕ)
weights_of heap = map weight_of (heap_items heap)

-- The path is put into the heap.
pub record IsPushed (e : Path × ℕ) (old new : BinaryHeap Heavy Global) : Type 0 where
  pub items : IsPermutation (e ∷ weights_of old) (weights_of new)
  pub order : KeepsHeap heavy_cmp (heap_items old) (heap_items new)

-- The heap has the heaviest of the paths es, at most n.
pub record IsKept (n : ℕ) (es : List (Path × ℕ)) (heap : BinaryHeap Heavy Global) : Type 0 where
  pub ordered : IsHeap heavy_cmp (heap_items heap)
  pub heaviest : AreHeaviest n es (weights_of heap)

-- If the old heap has the heaviest of some paths, the new one has the heaviest of these and those added.
abbrev pub Keeps : ℕ → List (Path × ℕ) → BinaryHeap Heavy Global → BinaryHeap Heavy Global → Type 0
Keeps n added old new = (es : List (Path × ℕ)) → IsKept n es old → IsKept n (es ++ added) new
