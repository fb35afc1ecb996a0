-- The paths that were entered, in the order of their first entries, with what was entered at each.
use Rattle.std.specs.Prelude.{◌≡◌, ℕ, ◌+◌, List, [], ◌∷◌, ◌++◌, Bool, false, ◌||◌, slice_index_or, length, ◌<◌, map}
use Rattle.std.specs.Prelude.{zero, suc}
use Rattle.std.specs.FinMap.{from_entries}
use Rattle.allocative_graph.specs.Path.{Key, Path}
use Rattle.allocative_graph.specs.Sums.{Sums, Node}

-- A path, the bytes entered there, and whether it was ever entered as unique.
pub record Sum : Type 0 where
  pub path : Path
  pub bytes : ℕ
  pub is_unique : Bool

-- What was entered, path by path. The root comes first, and a place in the list is the number of a node.
abbrev pub Listed : Type 0
Listed = List Sum

-- The root before any entry.
abbrev pub root_sum : Sum
root_sum = record { path = []; bytes = 0; is_unique = false }

-- What a path has after one more entry of n bytes, which is unique if u is true.
abbrev pub raise : ℕ → Bool → Sum → Sum
raise n u s = record { path = s.path; bytes = s.bytes + n; is_unique = s.is_unique || u }

-- The list with one more entry of n bytes at place i. If the list ends there, the path q is added at its end.
abbrev pub put : ℕ → Path → ℕ → Bool → Listed → Listed
put i q n u [] = record { path = q; bytes = n; is_unique = u } ∷ []
put zero q n u (s ∷ rest) = raise n u s ∷ rest
put (suc i) q n u (s ∷ rest) = s ∷ put i q n u rest

-- What was entered at place i.
abbrev pub sum_at : Listed → ℕ → Sum
sum_at s i = slice_index_or s i root_sum

-- The path at place i.
abbrev pub path_at : Listed → ℕ → Path
path_at s i = let e = sum_at s i in e.path

-- `new` is `old` with one more entry of n bytes under k at the path of place `at`, and i is the place of the entry.
-- No other place has its path.
pub record IsEntered (old new : Listed) (at : ℕ) (k : Key) (n : ℕ) (u : Bool) (i : ℕ) : Type 0 where
  pub sums : new ≡ put i (path_at old at ++ k ∷ []) n u old
  pub not_root : 0 < i
  pub within : i < length new
  pub path : path_at new i ≡ path_at old at ++ k ∷ []
  pub sole : (j : ℕ) → j < length old → path_at old j ≡ path_at old at ++ k ∷ [] → j ≡ i

-- The path at i is the path at p with one more key.
pub record IsAbove (s : Listed) (i : ℕ) (p : ℕ) : Type 0 where
  pub key : Key
  pub within : p < length s
  pub path : path_at s i ≡ path_at s p ++ key ∷ []

-- ---- as a map
-- A path with what was entered there.
abbrev pub row : Sum → Path × Node
row e = (e.path, record { bytes = e.bytes; is_unique = e.is_unique })

-- The rows of all paths but the root, which comes first.
abbrev pub rows : Listed → List (Path × Node)
rows [] = []
rows (r ∷ s) = map row s

-- The list as a map from paths to what was entered there.
abbrev pub map_of : Listed → Sums
map_of s = from_entries (rows s)
