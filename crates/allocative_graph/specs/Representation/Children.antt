-- Lists of children as maps from a key and the path below it to a size, and what adding graphs and merging children
-- leave, also if memory runs out on the way; the line of a row, and the graphs of paths and stacks.
use Rattle.std.specs.Prelude.{◌≡◌, ℕ, ◌+◌, ◌||◌, ◌==◌, List, [], ◌∷◌, ◌++◌, decimal, fold, ◌^◌}
use Rattle.std.specs.Prelude.{◌<◌, ◌≤◌, ◌⊎◌, true, cond, Option, Some, None, is_some, length, slice_index_or, ◌&&◌}
use Rattle.std.specs.Prelude.{Bool}
use Rattle.std.specs.FinMap.{get}
use Rattle.allocative_graph.specs.Path.{Path, Key, key_cmp}
use Rattle.allocative_graph.specs.Format.{space, newline}
use Rattle.allocative_graph.specs.Graph.{Graph, default, sum_of, under, add_self, IsTree, total}
use Rattle.allocative_graph.specs.Graph.{is_root, joined}
use Rattle.allocative_graph.specs.Read.{Stack}
use Rattle.allocative_graph.specs.declared.flamegraph.Child.{Child}
use Rattle.allocative_graph.specs.Rows.{total_of, AreChildren, keys_of, rows_of}
use Rattle.std.specs.Option.{unwrap_or}
use Rattle.std.specs.List.{AllByRecursion}
use Rattle.std.specs.List.Sorted.{IsStrictlySortedBy, IsPartitionPoint}
use Rattle.std.specs.declared.cmp.Ordering.{Ordering}
use Rattle.std.specs.declared.cmp.Ordering.TheVariants.{Less, Greater}
use Rattle.std.specs.Ordering.{eq_by_cmp}

-- The line of a path, with t before its keys. The root has none.
abbrev pub line_after : List ℕ → Path × ℕ → List ℕ
line_after t e = cond (is_root e.0 || (e.1 == 0)) [] (t ++ (joined e.0 ++ space ∷ decimal e.1 ++ newline ∷ []))

-- ---- the graphs of paths and of stacks
-- The graph that has n bytes at a path, each prefix of the path, and nothing else.
abbrev pub graph_of_path : Path → ℕ → Graph
graph_of_path [] n = add_self n default
graph_of_path (k ∷ p) n = under k (graph_of_path p n)

-- The graph of one stack.
abbrev pub one_stack : Stack → Graph
one_stack s = graph_of_path s.path s.size

-- The graph g with the graphs of some stacks added, one after another.
abbrev pub sum_of_stacks : Graph → List Stack → Graph
sum_of_stacks g ss = fold (λ h s. sum_of h (one_stack s)) g ss

-- ---- what holds of every node
-- What holds of every node: its children are in order, it keeps the sum of their totals, and the total fits a word.
pub record IsNode (cs : List Child) (children_size node_size : ℕ) : Type 0 where
  pub children : AreChildren cs
  pub size : children_size ≡ total_of cs
  pub fits : node_size + children_size < 2 ^ 64

-- ---- lists of children
-- The size at the path p below the child with the key k, or None if there is no such path.
abbrev pub size_under : List Child → Key → Path → Option ℕ
size_under [] k p = None
size_under (c ∷ cs) k p = cond (eq_by_cmp key_cmp k c.key) (get c.graph p) (size_under cs k p)

-- z is the sum of x and y. It is there if x or y is, and a missing one counts as 0.
abbrev pub AddsUp : Option ℕ → Option ℕ → Option ℕ → Type 0
AddsUp x y z = (unwrap_or z 0 ≡ unwrap_or x 0 + unwrap_or y 0) × (is_some z ≡ (is_some x || is_some y))

-- z is x or the sum of x and y. It is there if x is, and only if x or y is.
abbrev pub AddsUpInPart : Option ℕ → Option ℕ → Option ℕ → Type 0
AddsUpInPart x y z =
    ((unwrap_or z 0 ≡ unwrap_or x 0) ⊎ (unwrap_or z 0 ≡ unwrap_or x 0 + unwrap_or y 0))
    × (is_some x ≡ true → is_some z ≡ true)
    × (is_some z ≡ true → (is_some x || is_some y) ≡ true)

-- z is a part of the sum of x and y, and if all was added the sum.
abbrev pub Adds : Bool → Option ℕ → Option ℕ → Option ℕ → Type 0
Adds all x y z = AddsUpInPart x y z × (all ≡ true → AddsUp x y z)

-- Each key is below those after it.
abbrev pub InOrder : List Child → Type 0
InOrder cs = IsStrictlySortedBy key_cmp (keys_of cs)

-- Each key is above k.
abbrev pub AllAbove : List Child → Key → Type 0
AllAbove cs k = AllByRecursion (λ l. key_cmp k l ≡ Less) (keys_of cs)

-- The key k is at the place i.
pub record IsFound (cs : List Child) (k : Key) (i : ℕ) : Type 0 where
  pub within : i < length cs
  pub same : (d : Child) → (slice_index_or cs i d).key ≡ k

-- The key k is not there, and belongs at the place i.
pub record IsChildGap (cs : List Child) (k : Key) (i : ℕ) : Type 0 where
  pub within : i ≤ length cs
  pub between : IsPartitionPoint (λ c. key_cmp c.key k ≡ Less) (λ c. key_cmp c.key k ≡ Greater) cs i

-- The child that has the key k, n bytes at the path p below it, and nothing else.
abbrev pub child_of_path : Key → Path → ℕ → Child
child_of_path k p n = record { key = k; graph = graph_of_path p n }

-- Which of two lists has the next child in the order of keys: the first (`Less`), the second (`Greater`), or both
-- with one key (`Equal`).
abbrev pub front_order : List Child → List Child → Option Ordering
front_order [] [] = None
front_order [] (d ∷ ds) = Some Greater
front_order (c ∷ cs) [] = Some Less
front_order (c ∷ cs) (d ∷ ds) = Some (key_cmp c.key d.key)

-- ---- what adding and merging leave
-- h was added to g, with the result r: a part of their sum, and if all was added the sum itself.
pub record Added (all : Bool) (g h r : Graph) : Type 0 where
  pub tree : IsTree r
  pub adds : (p : Path) → Adds all (get g p) (get h p) (get r p)
  pub at_most : total r ≤ total g + total h

-- ds were merged into cs, with the result es: below each key a part of their sum, and if all was added the sum.
pub record Merged (all : Bool) (cs ds es : List Child) : Type 0 where
  pub children : AreChildren es
  pub above : (k : Key) → AllAbove cs k → AllAbove ds k → AllAbove es k
  pub adds : (k : Key) (p : Path) → Adds all (size_under cs k p) (size_under ds k p) (size_under es k p)
  pub at_most : total_of es ≤ total_of cs + total_of ds
  pub fewer : length es ≤ length cs + length ds

-- Of cs and ds, cs' and ds' remain, and out is the merge of what comes before them.
pub record MergesFirst (all : Bool) (cs ds out cs' ds' : List Child) : Type 0 where
  pub goes_on : (b : Bool) (es : List Child) → Merged b cs' ds' es → Merged (all && b) cs ds (out ++ es)
  pub mine : AreChildren cs'
  pub theirs : AreChildren ds'
  pub fewer : length out + (length cs' + length ds') ≤ length cs + length ds
  pub fewer_rows : length (rows_of ds') ≤ length (rows_of ds)
  pub fits : total_of out + (total_of cs' + total_of ds') ≤ total_of cs + total_of ds
