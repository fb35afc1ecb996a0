-- Where the boxes of paths with one parent are placed beside one another.
use Rattle.std.specs.Prelude.{◌≡◌, ℕ, ◌+◌, ◌-◌, ◌<◌, ◌^◌, ◌⊎◌, cond, List, [], ◌∷◌, length, sum_by, slice_index_or, IsPermutation, AllPairs}
use Rattle.std.specs.Ordering.{nat_cmp, ordering_then, is_lt}
use Rattle.std.specs.declared.cmp.Ordering.{Ordering}
use Rattle.std.specs.declared.cmp.Ordering.TheVariants.{Less}
use Rattle.allocative_graph.specs.Path.{Key, Path, key_cmp, path_cmp}
use Rattle.allocative_graph.specs.Graph.{total}
use Rattle.allocative_graph.specs.declared.flamegraph.Child.{Child}
use Rattle.allocative_picture.specs.declared.options.Order.{Order}
use Rattle.allocative_picture.specs.declared.options.Order.TheVariants as order
use Rattle.allocative_picture.specs.declared.places.Place.{Place}

-- The key by which a path is placed beside those with its parent, if it has n bytes with all below it: its last key. By
-- size it stands behind the bytes that a word has more, so the heaviest come first.
abbrev pub place_key : Order → ℕ → Key → Key
place_key order.Key n k = k
place_key order.Size n k = (2 ^ 64 - n) ∷ k

-- The keys by which a path and those above it are placed, if f gives their bytes. Boxes are drawn in their order.
abbrev pub place : Order → (Path → ℕ) → Path → Path
place o f [] = []
place o f (k ∷ p) = place_key o (f (k ∷ [])) k ∷ place o (λ q. f (k ∷ q)) p

-- The bytes of all entries whose boxes are drawn before that of p, if f gives the bytes of each path with all below it.
abbrev pub before_in : Order → (Path → ℕ) → List (Path × ℕ) → Path → ℕ
before_in o f rs p = sum_by (λ e. cond (is_lt (path_cmp (place o f e.0) (place o f p))) e.1 0) rs

-- Of two paths with one parent, which have m and n bytes with all below them and the last keys k and l, the first is
-- drawn first: its key is the lesser; by size it has more bytes, or as many and the lesser key.
abbrev pub IsDrawnFirst : Order → ℕ → ℕ → Key → Key → Type 0
IsDrawnFirst order.Key m n k l = key_cmp k l ≡ Less
IsDrawnFirst order.Size m n k l = (m < 2 ^ 64) × ((n < m) ⊎ ((m ≡ n) × (key_cmp k l ≡ Less)))

-- ---- how it is made
-- The key by which a child is placed.
abbrev pub child_place : Order → Child → Key
child_place o c = place_key o (total c.graph) c.key

-- The bytes of those of some children that are drawn before c.
abbrev pub bytes_before : Order → List Child → Child → ℕ
bytes_before o cs c = sum_by (λ d. cond (is_lt (key_cmp (child_place o d) (child_place o c))) (total d.graph) 0) cs

-- The place of a child: its bytes and its number.
abbrev pub placed : Child → ℕ → Place
placed c i = record { bytes = record { 0 = total c.graph }; index = i }

-- The places of some children, by their numbers from i on.
abbrev pub numbered : ℕ → List Child → List Place
numbered i [] = []
numbered i (c ∷ cs) = placed c i ∷ numbered (i + 1) cs

-- How two children are placed, by their bytes and numbers.
abbrev pub place_cmp : Order → Place → Place → Ordering
place_cmp order.Key x y = nat_cmp x.index y.index
place_cmp order.Size x y = ordering_then (nat_cmp y.bytes.0 x.bytes.0) (nat_cmp x.index y.index)

-- The places ys are those of the children, in the order in which these are drawn.
pub record AreInOrder (o : Order) (cs : List Child) (ys : List Place) : Type 0 where
  pub same : IsPermutation (numbered 0 cs) ys
  pub rising : AllPairs (λ x y. place_cmp o x y ≡ Less) ys

-- If b bytes come before the first child that is drawn, so many come before each child.
pub record AreStarts (o : Order) (b : ℕ) (cs : List Child) (starts : List ℕ) : Type 0 where
  pub many : length starts ≡ length cs
  pub each : (i : ℕ) (d : Child) → i < length cs
      → slice_index_or starts i 0 ≡ b + bytes_before o cs (slice_index_or cs i d)
