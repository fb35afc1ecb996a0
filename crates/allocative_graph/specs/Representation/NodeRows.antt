-- The rows of a node are in the order of paths. So they are the entries of its graph, and each child has fewer.
use Rattle.std.specs.Prelude.{◌≡◌, ℕ, ◌+◌, ◌≤◌, T, Bool, ◌&&◌, List, [], ◌∷◌, ◌++◌, length}
use Rattle.std.proofs.Common.{arith, length-append, ap, sym, subst, ◌∙◌}
use Rattle.std.proofs.Math.Facts.{and_yes}
pub use Rattle.std.proofs.Math.Facts.{yes_and as both}
use Rattle.std.proofs.lemmas.List.{length-map}
use Rattle.std.specs.List.{AllByRecursion}
use Rattle.std.specs.List.Sorted.{IsStrictlySortedBy}
use Rattle.std.specs.declared.cmp.Ordering.TheVariants.{Less}
use Rattle.std.specs.Ordering.{is_lt, ordering_then}
use Rattle.std.specs.Cmp.{tied_itself}
use Rattle.std.specs.Cmp.Lexicographic.{nat_list_cmp_total}
use Rattle.std.specs.FinMap.{entries, entries_sorted, entries-from_sorted, len, len-entries}
use Rattle.std.specs.FinMap.Entries.{is_sorted, below_all}
use Rattle.allocative_graph.specs.declared.flamegraph.Child.{Child}
use Rattle.allocative_graph.specs.declared.flamegraph.FlameGraph.TheDeep.{deep-Child}
use Rattle.allocative_graph.specs.Rows.{under_rows, rows_of, rows_of_child, keys_of, node}
use Rattle.allocative_graph.specs.Path.{Key, Path, key_cmp, path_cmp}
use denote.Param.Weighed.{most}

-- If a conjunction holds, its first test holds.
pub first : (a b : Bool) → T (a && b) → T a
first a b p = (and_yes a b p).0

-- If a conjunction holds, its second test holds.
pub second : (a b : Bool) → T (a && b) → T b
second a b p = (and_yes a b p).1

-- A path before each path that starts with k is before some of them, followed by rows that it is before.
below_every : (x : Path) (k : Key) (rs rest : List (Path × ℕ)) → ((p : Path) → T (is_lt (path_cmp x (k ∷ p))))
    → T (below_all path_cmp x rest) → T (below_all path_cmp x (under_rows k rs ++ rest))
below_every x k [] rest f g = g
below_every x k (r ∷ rs) rest f g = both _ _ (f r.0) (below_every x k rs rest f g)

-- The root comes before the rows of all children.
root_below : (cs : List Child) → T (below_all path_cmp [] (rows_of cs))
root_below [] = tt
root_below (c ∷ cs) = below_every [] c.key (entries c.graph) (rows_of cs) (λ p. tt) (root_below cs)

-- A path comes before the rows of all children with greater keys.
below-later : (k : Key) (p : Path) (cs : List Child) → AllByRecursion (λ l. key_cmp k l ≡ Less) (keys_of cs)
    → T (below_all path_cmp (k ∷ p) (rows_of cs))
below-later k p [] h = tt
below-later k p (c ∷ cs) h = below_every (k ∷ p) c.key (entries c.graph) (rows_of cs)
    (λ q. subst (λ o. T (is_lt (ordering_then o (path_cmp p q)))) (sym h.0) tt) (below-later k p cs h.1)

-- A path before some rows is before them when one key is put before all, and rows follow that it is before.
below-under : (k : Key) (p : Path) (rs rest : List (Path × ℕ)) → T (below_all path_cmp p rs)
    → T (below_all path_cmp (k ∷ p) rest) → T (below_all path_cmp (k ∷ p) (under_rows k rs ++ rest))
below-under k p [] rest h g = g
below-under k p (r ∷ rs) rest h g =
    both _ _ (subst (λ o. T (is_lt (ordering_then o (path_cmp p r.0)))) (sym (tied_itself nat_list_cmp_total k))
    (first _ _ h))
    (below-under k p rs rest (second _ _ h) g)

-- Rows in order, with one key put before all and followed by rows that come after them, are in order.
sorted-under : (k : Key) (rs rest : List (Path × ℕ)) → T (is_sorted path_cmp rs) → T (is_sorted path_cmp rest)
    → ((p : Path) → T (below_all path_cmp (k ∷ p) rest)) → T (is_sorted path_cmp (under_rows k rs ++ rest))
sorted-under k [] rest p q h = q
sorted-under k (r ∷ rs) rest p q h =
    both _ _ (below-under k r.0 rs rest (first _ _ p) (h r.0)) (sorted-under k rs rest (second _ _ p) q h)

-- The rows of children with rising keys are in order.
rows_sorted : (cs : List Child) → IsStrictlySortedBy key_cmp (keys_of cs) → T (is_sorted path_cmp (rows_of cs))
unfolding IsStrictlySortedBy
rows_sorted [] h = tt
rows_sorted (c ∷ cs) h = sorted-under c.key (entries c.graph) (rows_of cs) (entries_sorted c.graph)
    (rows_sorted cs h.1) (λ p. below-later c.key p cs h.0)

-- The rows of a node whose children have rising keys are in order.
pub node_sorted : (n : ℕ) (cs : List Child) → IsStrictlySortedBy key_cmp (keys_of cs)
    → T (is_sorted path_cmp (([], n) ∷ rows_of cs))
node_sorted n cs h = both _ _ (root_below cs) (rows_sorted cs h)

-- The rows of a node whose children have rising keys are the entries of its graph.
pub entries-node : (n : ℕ) (cs : List Child) → IsStrictlySortedBy key_cmp (keys_of cs)
    → entries (node n cs) ≡ ([], n) ∷ rows_of cs
entries-node n cs h = entries-from_sorted path_cmp (([], n) ∷ rows_of cs) (node_sorted n cs h)

-- A child has as many rows as its graph has entries.
pub len-child : (c : Child) → length (rows_of_child c) ≡ len c.graph
len-child c = length-map {B = Path × ℕ} (entries c.graph) (λ r. (c.key ∷ r.0, r.1)) ∙ sym (len-entries c.graph)

-- No child is deeper than there are rows of children.
most_le-rows : (cs : List Child) → most (λ c. deep-Child c) cs ≤ length (rows_of cs) + 1
most_le-rows [] = omega arith
most_le-rows (c ∷ cs) = omega (arith, most_le-rows cs, length-append (rows_of_child c) (rows_of cs), len-child c)

-- No child is as deep as its node has entries.
pub most_le-node : (n : ℕ) (cs : List Child) → IsStrictlySortedBy key_cmp (keys_of cs)
    → most (λ c. deep-Child c) cs ≤ len (node n cs)
most_le-node n cs h = omega (arith, most_le-rows cs, len-entries (node n cs), ap length (entries-node n cs h))
