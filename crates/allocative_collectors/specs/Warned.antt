-- Paths that have a warning, as contracts see them, and what a walk of the nodes makes: the graph of the sums and these
-- paths.
use Rattle.std.specs.Prelude.{ℕ, Bool, false, ◌&&◌, ◌||◌, List, [], ◌∷◌, ◌++◌, map, flat_map, codes, bytes_eq, ◌≡◌}
use Rattle.std.specs.Prelude.{true, cond, not, nat_lt, None, sum_by, length, slice_index_or, ◌-◌}
use Rattle.allocative_graph.specs.Format.{newline}
use Rattle.allocative_graph.specs.Graph.{Warned, warning_text, Graph, graph, total, remaining, is_root, warned}
use Rattle.allocative_graph.specs.Path.{Key, Path, key_cmp}
use Rattle.allocative_collectors.specs.declared.output.WarnedPath.{WarnedPath}
use Rattle.std.specs.List.{filter}
use Rattle.std.specs.FinMap.{get, entries}
use Rattle.std.specs.Ordering.{eq_by_cmp}
use Rattle.allocative_graph.specs.Sums.{Node, below}
use Rattle.allocative_collectors.specs.Listed.{Listed, sum_at, path_at, row, map_of}

-- The path and the two figures of a value of code.
abbrev pub warning_of : WarnedPath → Warned
warning_of w = record { path = map (λ k. k.now) w.path.items; self_size = w.self_size; children_size = w.children_size }

-- The warnings of some paths, each with a line feed.
abbrev pub warning_lines : List Warned → List ℕ
warning_lines ws = flat_map (λ w. warning_text w ++ newline ∷ []) ws

-- Whether two keys are the name of a map or a set of std and `data`.
abbrev pub is_std_entry : Key → Key → Bool
is_std_entry k l =
    bytes_eq l (codes "data")
    && (bytes_eq k (codes "BTreeMap") || bytes_eq k (codes "BTreeSet")
    || bytes_eq k (codes "HashMap") || bytes_eq k (codes "HashSet"))

-- Whether a path has two keys or more, and the last two are such keys.
abbrev pub is_std_data : Path → Bool
is_std_data p =
    nat_lt 1 (length p) && is_std_entry (slice_index_or p (length p - 2) []) (slice_index_or p (length p - 1) [])

-- ---- the graph and the warnings, place by place and path by path
-- The size that the graph has at place i.
abbrev pub size_at_place : Listed → ℕ → ℕ
size_at_place s i = let e = sum_at s i in remaining (map_of s) e.path (row e).1

-- Whether place i has a warning.
abbrev pub is_short : Listed → ℕ → Bool
is_short s i = let e = sum_at s i in not (is_root e.path) && not e.is_unique && nat_lt e.bytes (below (map_of s) e.path)

-- Whether the second path is the first one followed by a path that passes the test.
abbrev pub behind : Path → (Path → Bool) → Path → Bool
behind [] test q = test q
behind (k ∷ p) test [] = false
behind (k ∷ p) test (l ∷ q) = eq_by_cmp key_cmp l k && behind p test q

-- What was entered at p followed by any path that passes the test, in the order of paths.
abbrev pub rows_behind : Listed → Path → (Path → Bool) → List (Path × Node)
rows_behind s p test = filter (λ e. behind p test e.0) (entries (map_of s))

-- g has what the graph has at p followed by any path that passes the test. Those of these paths that have a warning
-- were appended to `found`.
pub record MakesPart (s : Listed) (p : Path) (test : Path → Bool) (found found' : List Warned) (g : Graph) : Type
    0 where
  pub warned_are : found' ≡ found ++ flat_map (warned (map_of s)) (rows_behind s p test)
  pub graph_is : (q : Path) → get g q ≡ cond (test q) (get (graph (map_of s)) (p ++ q)) None
  pub total_is : total g ≡ sum_by (λ e. remaining (map_of s) e.0 e.1) (rows_behind s p test)

-- g has what the graph has at the path of place i and below it. Those of these paths that have a warning were
-- appended to `found`.
abbrev pub MakesGraph : Listed → ℕ → List Warned → List Warned → Graph → Type 0
MakesGraph s i found found' g = MakesPart s (path_at s i) (λ q. true) found found' g

-- The same for a path with no warning at it or below it.
abbrev pub MakesGraphAlone : Listed → ℕ → Graph → Type 0
MakesGraphAlone s i g = (found : List Warned) → MakesGraph s i found found g
