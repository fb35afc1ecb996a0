-- The children of a graph's root, adding many of them, and the rows of all paths.
use Rattle.std.specs.Prelude.{ℕ, ◌<◌, List, [], ◌∷◌, ◌++◌, map, ◌≡◌, fold, sum_by, IsTrue}
use Rattle.std.specs.List.{flat_map, All, AllByRecursion}
use Rattle.std.specs.List.Sorted.{IsStrictlySortedBy}
use Rattle.std.specs.FinMap.{entries, len, from_sorted, contains_key}
use Rattle.allocative_graph.specs.declared.flamegraph.Child.{Child}
use Rattle.allocative_graph.specs.declared.flamegraph.Row.{Row}
use Rattle.allocative_graph.specs.Path.{Key, Path, key_cmp}
use Rattle.allocative_graph.specs.Graph.{Graph, IsTree, total_at, total, sum_of, under}
use Rattle.std.specs.declared.cmp.Ordering.TheVariants.{Less}

-- ---- the children of the root
-- The rows with the key before each path.
abbrev pub under_rows : Key → List (Path × ℕ) → List (Path × ℕ)
under_rows k rs = map (λ r. (k ∷ r.0, r.1)) rs

-- The rows of a child: each path of its graph with its key before it.
abbrev pub rows_of_child : Child → List (Path × ℕ)
rows_of_child c = under_rows c.key (entries c.graph)

-- The rows of all children, one child after another.
abbrev pub rows_of : List Child → List (Path × ℕ)
rows_of cs = flat_map rows_of_child cs

-- The graph of a root, from its own size and its children.
abbrev pub node : ℕ → List Child → Graph
node n cs = from_sorted (([], n) ∷ rows_of cs)

-- The keys of the children.
abbrev pub keys_of : List Child → List Key
keys_of cs = map (λ c. c.key) cs

-- What holds of the children of every root: each key is below those after it, and each graph is a tree.
pub record AreChildren (cs : List Child) : Type 0 where
  pub sorted : IsStrictlySortedBy key_cmp (keys_of cs)
  pub trees : AllByRecursion (λ c. IsTree c.graph) cs

-- Each child has fewer paths than g.
abbrev pub AllSmaller : List Child → Graph → Type 0
AllSmaller cs g = All (λ c. len c.graph < len g) cs

-- ---- the rows of all paths
-- A path, its own bytes, and the bytes of it and of all paths below it.
pub record Figures : Type 0 where
  pub path : Path
  pub self_size : ℕ
  pub total_size : ℕ

-- What a contract sees of a row.
abbrev pub row_figures : Row → Figures
row_figures r = record { path = map (λ k. k.now) r.path.items; self_size = r.self_size; total_size = r.total_size }

-- The figures of each path of g, with some keys before it, in the order of paths.
abbrev pub figures_behind : Path → Graph → List Figures
figures_behind ks g = map (λ e. record { path = ks ++ e.0; self_size = e.1; total_size = total_at g e.0 }) (entries g)

-- The figures of each path of g, in the order of paths.
abbrev pub figures : Graph → List Figures
figures g = map (λ e. record { path = e.0; self_size = e.1; total_size = total_at g e.0 }) (entries g)

-- ---- adding many children
-- The graph with some children added, one after another.
abbrev pub sum_of_all : Graph → List Child → Graph
sum_of_all g cs = fold (λ h c. sum_of h (under c.key c.graph)) g cs

-- The sum of the totals of some children.
abbrev pub total_of : List Child → ℕ
total_of cs = sum_by (λ c. total c.graph) cs

-- Each path of the graph, other than that of the root, begins with a key that is less than k.
abbrev pub ComesLast : Graph → Key → Type 0
ComesLast g k = (l : Key) (p : Path) → IsTrue (contains_key g (l ∷ p)) → key_cmp l k ≡ Less
