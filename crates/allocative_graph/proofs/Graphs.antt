-- Graphs as maps: their sums, their totals, graphs under a key, and graphs added one after another.
use Rattle.std.proofs.Common.{◌≡◌, ℕ, ◌+◌, cond, ◌||◌, T, IsTrue, List, [], ◌∷◌, ◌++◌, fold, Option, Some, None}
use Rattle.std.proofs.Common.{is_some, ap, sym, ◌∙◌, arith, unwrap_or, sum_by, refl}
use Rattle.allocative_graph.proofs.Common.{eq_by_cmp, get, entries, get-entries, get-insert, get-from_entries}
use Rattle.allocative_graph.proofs.Common.{entries_sorted, contains_key, same_map, find, is_sorted, below_all, first}
use Rattle.allocative_graph.proofs.Common.{second, Key, Child, node, AddsUp, Path, key_cmp, path_cmp, is_same_path}
use Rattle.allocative_graph.proofs.Common.{Forest, all, Bag, is_entered_in, sums_of, Graph, graph, size_at, total_at}
use Rattle.allocative_graph.proofs.Common.{begins, total, sum_of, under, default, IsTree, sum_by-cons, insert, list_any}
use Rattle.allocative_graph.proofs.Common.{IsPermutation, sum_of_all, total_of, sum_by-IsPermutation}
use Rattle.allocative_graph.proofs.Common.{list_any-IsPermutation}
use Rattle.allocative_graph.proofs.Basics.{path_total, path_antisymmetric, same_path, or_comm, or-false}
use Rattle.allocative_graph.proofs.Basics.{entries-from_entries-sorted}
use Rattle.allocative_graph.proofs.Sums.{find-below_all, weights-insert, get-sums_of, below_entered, closed_all}
use Rattle.allocative_graph.proofs.Showings.{get-sum_of, get-graph, get-graph-root}
use Rattle.allocative_graph.proofs.Children.{get-root, get-under as get-below, node_of_one, one_sorted, total-node}

-- ---- one size more at a path
abbrev pub add_at : Graph → Path × ℕ → Graph
add_at g e = insert g e.0 (size_at g e.0 + e.1)

-- At its path a graph with a size added has both together.
pub get-add_at : (g : Graph) (e : Path × ℕ) (q : Path) →
    get (add_at g e) q ≡ cond (is_same_path q e.0) (Some (size_at g e.0 + e.1)) (get g q)
get-add_at g e q = get-insert path_total g e.0 (size_at g e.0 + e.1) q

-- A size added at a path counts in the total at that path and at each of its prefixes, and nowhere else.
total_at-add_at : (q : Path) (g : Graph) (e : Path × ℕ) →
    total_at (add_at g e) q ≡ total_at g q + cond (begins q e.0) e.1 0
total_at-add_at q g e = weights-insert path_total path_antisymmetric (λ p n. cond (begins q p) n 0) g e.0
    (size_at g e.0 + e.1) (cond (begins q e.0) e.1 0) (grind arith)

-- The total is the bytes of the root and of all below it.
pub total-add_at : (g : Graph) (e : Path × ℕ) → total (add_at g e) ≡ total g + e.1
total-add_at g e = total_at-add_at [] g e

abbrev add_list : Graph → List (Path × ℕ) → Graph
add_list g es = fold add_at g es

-- Each row added to a graph counts in the total at the path q exactly if its own path begins with q.
total_at-add_list : (q : Path) (g : Graph) (es : List (Path × ℕ)) →
    total_at (add_list g es) q ≡ total_at g q + sum_by (λ r. cond (begins q r.0) r.1 0) es
total_at-add_list q g [] = omega arith
total_at-add_list q g (e ∷ es) =
    omega (arith, total_at-add_list q (add_at g e) es, total_at-add_at, sum_by-cons {X = Path × ℕ})

-- Two sizes of a path together, if one of them is there.
abbrev pub sizes_together : Option ℕ → Option ℕ → Option ℕ
sizes_together x y = cond (is_some x || is_some y) (Some (unwrap_or x 0 + unwrap_or y 0)) None

-- If rows in order are added to a graph, each path has the size that it had and the size of its row together.
get-add_list : (g : Graph) (es : List (Path × ℕ)) → T (is_sorted path_cmp es) → (q : Path) →
    get (add_list g es) q ≡ sizes_together (get g q) (find path_cmp q es)
get-add_list g [] h q = grind arith
get-add_list g (e ∷ es) h q =
    let rest = get-add_list (add_at g e) es (second (below_all path_cmp e.0 es) _ h) q in
    let none = find-below_all path_cmp e.0 es (first (below_all path_cmp e.0 es) (is_sorted path_cmp es) h) in
    grind (arith, rest, none, get-add_at, same_path q e.0)

-- In the sum of two graphs, the bytes of a path and of all below it add up.
pub total_at-sum_of : (g h : Graph) (q : Path) → total_at (sum_of g h) q ≡ total_at g q + total_at h q
total_at-sum_of g h q =
    let listed : sum_of g h ≡ add_list g (entries h) = same_map path_total path_antisymmetric _ _ (λ p.
    get-sum_of g h p ∙ ap (sizes_together (get g p)) (get-entries h p)
    ∙ sym (get-add_list g (entries h) (entries_sorted h) p)) in
    ap (λ s. total_at s q) listed ∙ total_at-add_list q g (entries h)

-- The total of the sum of two graphs is the sum of their totals.
pub total-sum_of : (g h : Graph) → total (sum_of g h) ≡ total g + total h
total-sum_of g h = total_at-sum_of g h []

-- ---- the sum of graphs, path by path
-- In the sum of two graphs, the size at a path is the sum of both sizes there.
pub size_at-sum_of : (g h : Graph) (p : Path) → size_at (sum_of g h) p ≡ size_at g p + size_at h p
size_at-sum_of g h p = rw (get-sum_of g h p) (grind arith)

-- The sum of two graphs has a path exactly if either graph has it.
pub has-sum_of : (g h : Graph) (p : Path) → contains_key (sum_of g h) p ≡ (contains_key g p || contains_key h p)
has-sum_of g h p = rw (get-sum_of g h p) (grind arith)

-- Graphs with the same sizes and the same paths are one.
pub same_graph : (g h : Graph) → ((p : Path) → size_at g p ≡ size_at h p) →
    ((p : Path) → contains_key g p ≡ contains_key h p) → g ≡ h
same_graph g h sizes paths = same_map path_total path_antisymmetric g h (λ p. grind (arith, sizes p, paths p))

-- A graph that has the sums path by path is the sum.
pub is_sum_of : (g h r : Graph) → ((p : Path) → AddsUp (get g p) (get h p) (get r p)) → r ≡ sum_of g h
is_sum_of g h r s = same_graph r (sum_of g h) (λ p. (s p).0 ∙ sym (size_at-sum_of g h p))
    (λ p. (s p).1 ∙ sym (has-sum_of g h p))

-- The order of two graphs does not change their sum.
pub sum_of-commutes : (g h : Graph) → sum_of g h ≡ sum_of h g
sum_of-commutes g h = is_sum_of h g (sum_of g h)
    (λ p. (omega (arith, size_at-sum_of g h p), has-sum_of g h p ∙ or_comm (contains_key g p) (contains_key h p)))

-- Three graphs have the same sum whether the first two or the last two are added first.
pub sum_of-associates : (g h k : Graph) → sum_of (sum_of g h) k ≡ sum_of g (sum_of h k)
sum_of-associates g h k = is_sum_of g (sum_of h k) _
    (λ p. (
      omega (arith, size_at-sum_of (sum_of g h) k p, size_at-sum_of g h p, size_at-sum_of h k p),
      grind (arith, has-sum_of (sum_of g h) k p, has-sum_of g h p, has-sum_of h k p),
    ))

-- The default graph has 0 at the root, and no other path.
pub get-default : (q : Path) → get default q ≡ cond (is_same_path q []) (Some 0) None
get-default q = get-from_entries path_total (([], 0) ∷ []) q

-- The default graph has the size 0 at each path.
pub size_at-default : (q : Path) → size_at default q ≡ 0
size_at-default q = grind (arith, get-default q)

-- Adding the default graph to a tree changes nothing.
pub sum_of-default : (g : Graph) → IsTree g → sum_of g default ≡ g
sum_of-default g t = sym (is_sum_of g default g
    (λ p. (omega (arith, size_at-default p), grind (arith, get-default p, same_path p [], t.root))))

-- ---- put under a key
-- A graph under a key is a node with one child.
module _ (k : Key) (g : Graph) where
  abbrev only : Child
  only = record { key = k; graph = g }

  as_node : under k g ≡ node 0 (only ∷ [])
  as_node = sym (node_of_one only)

  -- A graph under a key has no bytes at its root.
  pub get-under-root : get (under k g) [] ≡ Some 0
  get-under-root = ap (λ h. get h []) as_node ∙ get-root 0 (only ∷ []) (one_sorted only)

  -- Below the key are the sizes of the graph, and there are no others.
  pub get-under : (l : Key) (q : Path) → get (under k g) (l ∷ q) ≡ cond (eq_by_cmp key_cmp l k) (get g q) None
  get-under l q = ap (λ h. get h (l ∷ q)) as_node ∙ get-below 0 (only ∷ []) l q (one_sorted only)

  -- A graph under a key has the same total.
  pub total-under : total (under k g) ≡ total g
  total-under = omega (arith, ap total as_node, total-node 0 (only ∷ []) (one_sorted only))

-- ---- the graph of a showing
-- A bag's graph has a path other than the root exactly if the bag has an entry there.
pub in_graph : (b : Bag) (k : Key) (p : Path) → contains_key (graph (sums_of b)) (k ∷ p) ≡ is_entered_in b (k ∷ p)
in_graph b k p = rw (get-graph (sums_of b) k p, get-sums_of b (k ∷ p)) (grind arith)

-- The graph of a forest is a tree: it has the root and, with each path, all prefixes of the path.
pub graph-tree : (f : Forest) → IsTree (graph (sums_of (all f)))
graph-tree f = record { root = ap is_some (get-graph-root (sums_of (all f))); closed = closed }
  where
    closed : (p : Path) (k : Key) → IsTrue (contains_key (graph (sums_of (all f))) (p ++ k ∷ [])) →
        IsTrue (contains_key (graph (sums_of (all f))) p)
    closed [] k h = ap is_some (get-graph-root (sums_of (all f)))
    closed (l ∷ p) k h = in_graph (all f) l p
        ∙ (closed_all f).has (l ∷ p) (below_entered (l ∷ p) k (all f) (sym (in_graph (all f) l (p ++ k ∷ [])) ∙ h))

-- ---- graphs added one after another, each made from an item, in any order of the items
-- The graph that has only the root, with 0, has a total of 0.
pub total-default : total default ≡ 0
total-default = ap (sum_by (λ e. e.1)) (entries-from_entries-sorted (([], 0) ∷ []) tt)

module _ {X : Type 0} (made : X → Graph) where
  -- The graph g with those of some items added.
  abbrev pub added_up : Graph → List X → Graph
  added_up g xs = fold (λ h x. sum_of h (made x)) g xs

  -- The size of a path in graphs that are added up is the sum of its sizes.
  pub size_at-added_up : (g : Graph) (xs : List X) (p : Path) →
      size_at (added_up g xs) p ≡ size_at g p + sum_by (λ x. size_at (made x) p) xs
  size_at-added_up g [] p = omega arith
  size_at-added_up g (x ∷ xs) p =
      omega (arith, size_at-added_up (sum_of g (made x)) xs p, size_at-sum_of, sum_by-cons {X = X})

  -- Graphs that are added up have the paths of each.
  pub has-added_up : (g : Graph) (xs : List X) (p : Path) →
      contains_key (added_up g xs) p ≡ (contains_key g p || list_any (λ x. contains_key (made x) p) xs)
  has-added_up g [] p = sym (or-false _)
  has-added_up g (x ∷ xs) p = grind (arith, has-added_up (sum_of g (made x)) xs p, has-sum_of g (made x) p)

  -- The total of graphs that are added up is the sum of their totals.
  pub total-added_up : (g : Graph) (xs : List X) → total (added_up g xs) ≡ total g + sum_by (λ x. total (made x)) xs
  total-added_up g [] = omega arith
  total-added_up g (x ∷ xs) = omega (arith, total-added_up (sum_of g (made x)) xs, total-sum_of, sum_by-cons {X = X})

  -- The order of the items does not matter.
  pub added_up-permuted : (g : Graph) (xs ys : List X) → IsPermutation xs ys → added_up g ys ≡ added_up g xs
  added_up-permuted g xs ys h = same_graph _ _
      (λ p. omega (arith, size_at-added_up, sum_by-IsPermutation (λ x. size_at (made x) p) xs ys h))
      (λ p. grind (arith, has-added_up, list_any-IsPermutation (λ x. contains_key (made x) p) xs ys h))

  -- A graph may be added before the others or to their sum.
  pub added_up-onto : (g h : Graph) (xs : List X) → sum_of g (added_up h xs) ≡ added_up (sum_of g h) xs
  added_up-onto g h [] = refl
  added_up-onto g h (x ∷ xs) = added_up-onto g (sum_of h (made x)) xs
      ∙ ap (λ s. added_up s xs) (sym (sum_of-associates g h (made x)))

-- ---- children
-- The order of the children does not matter.
pub all_permuted : (g : Graph) (cs ds : List Child) → IsPermutation cs ds → sum_of_all g ds ≡ sum_of_all g cs
all_permuted = added_up-permuted (λ (c : Child). under c.key c.graph)

-- Adding children to a graph adds their totals to its total.
pub total-all : (g : Graph) (cs : List Child) → total (sum_of_all g cs) ≡ total g + total_of cs
total-all g cs = total-added_up (λ (c : Child). under c.key c.graph) g cs
    ∙ (λ i. total g + sum_by (λ c. total-under c.key c.graph i) cs)

-- The total of the graph of some children.
pub total-gathered : (cs : List Child) → total (sum_of_all default cs) ≡ total_of cs
total-gathered cs = omega (arith, total-all default cs, total-default)

-- Adding the graph of some children is adding the children.
pub sum_of-all : (g : Graph) (cs : List Child) → IsTree g → sum_of g (sum_of_all default cs) ≡ sum_of_all g cs
sum_of-all g cs t = added_up-onto (λ (c : Child). under c.key c.graph) g default cs
    ∙ ap (λ (s : Graph). sum_of_all s cs) (sum_of-default g t)

-- What adding some children at once needs: that their graph adds the same, and has their totals.
pub ruleset adding_children = (sum_of-all, total-gathered)
