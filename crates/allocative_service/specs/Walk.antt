-- What a walk over two profiles appends, and in which order it takes their children.
use Rattle.std.specs.Prelude.{ℕ, ◌==◌, cond, List, [], ◌∷◌, ◌++◌, flat_map, Option, None, Some}
use Rattle.std.specs.declared.cmp.Ordering.{Ordering}
use Rattle.std.specs.declared.cmp.Ordering.TheVariants.{Less, Equal, Greater}
use Rattle.allocative.specs.Path.{Key, Path, key_cmp}
use Rattle.allocative.specs.Graph.{Graph, default}
use Rattle.allocative_graph.specs.declared.flamegraph.Child.{Child}
use Rattle.allocative_service.specs.Changes.{Changed}

-- The change of the path p behind the keys ks, if s and t have the sizes of p before and after.
abbrev pub change_behind : (Path → ℕ) → (Path → ℕ) → Path → Path → List Changed
change_behind s t ks p = cond (s p == t p) [] (record { path = ks ++ p; earlier = s p; later = t p } ∷ [])

-- The changes of the paths of some rows behind the keys ks.
abbrev pub changes_behind : (Path → ℕ) → (Path → ℕ) → Path → List (Path × ℕ) → List Changed
changes_behind s t ks rs = flat_map (λ r. change_behind s t ks r.0) rs

-- The first key of two lists of children, and of each list the graph at the key and the children after it.
abbrev pub Next : Type 0
Next = Key × (Graph × List Child) × (Graph × List Child)

-- What is taken of the children c ∷ cs and d ∷ ds, by the order of their first keys.
abbrev pub next_by : Ordering → Child → List Child → Child → List Child → Next
next_by Less c cs d ds = (c.key, (c.graph, cs), (default, d ∷ ds))
next_by Equal c cs d ds = (c.key, (c.graph, cs), (d.graph, ds))
next_by Greater c cs d ds = (d.key, (default, c ∷ cs), (d.graph, ds))

-- What is taken of two lists of children at their first key. Of a list without the key the empty graph is taken.
abbrev pub next_of : List Child → List Child → Option Next
next_of [] [] = None
next_of (c ∷ cs) [] = Some (c.key, (c.graph, cs), (default, []))
next_of [] (d ∷ ds) = Some (d.key, (default, []), (d.graph, ds))
next_of (c ∷ cs) (d ∷ ds) = Some (next_by (key_cmp c.key d.key) c cs d ds)
