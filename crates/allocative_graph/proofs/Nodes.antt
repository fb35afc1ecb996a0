-- What a graph has at a path and below it, by the children of its root, and its figures; nodes are trees, and add up if
-- their own sizes and their children do; the number of their paths; what a node has after bytes are added at one path.
use Rattle.std.proofs.Common.{◌≡◌, ℕ, ◌+◌, ◌<◌, ◌^◌, Bool, true, List, [], ◌∷◌, ◌++◌, length, length-append, Some, refl}
use Rattle.std.proofs.Common.{get_or, unwrap_or, sym, ap, subst, subst₂, ◌∙◌, arith, ◌≤◌, set, zero-add, add-zero, take}
use Rattle.std.proofs.Common.{sum_by, ◌&&◌, cond, Option, None, IfNone, ⊎_elim, map, append_assoc, append-nil, flat_map}
use Rattle.allocative_graph.proofs.Common.{sum_by-cons, key_cmp, AllByRecursion, is_some, contains_key, entries, len}
use Rattle.allocative_graph.proofs.Common.{len-entries, Child, Key, Path, Graph, IsTree, size_at, sum_of, total, under}
use Rattle.allocative_graph.proofs.Common.{node, rows_of, rows_of_child, AreChildren, IsNode, total_of, size_under}
use Rattle.allocative_graph.proofs.Common.{Adds, Added, Merged, entries-node, len-child, All-from_recursion, insert}
use Rattle.allocative_graph.proofs.Common.{default, add_self, IsFound, get, graph_of_path, child_of_path, eq_by_cmp}
use Rattle.allocative_graph.proofs.Common.{IsBehind, HasNothing, begins, total_at, InOrder, IsChildGap, Figures}
use Rattle.allocative_graph.proofs.Common.{figures_behind, under_rows, map-append, flat_map-append, take_more}
use Rattle.allocative_graph.proofs.Common.{exact_bytes, nil_from_length}
use Rattle.std.specs.List.Sorted.{IsStrictlySortedBy}
use Rattle.allocative_graph.specs.Rows.{ComesLast}
use Rattle.allocative_graph.proofs.Children.{put_at_gap, merged_same, put_at_found, with_graph, get-root, get-under}
use Rattle.allocative_graph.proofs.Children.{node_of_one, one_child, total-node, no_children, insert_root, node_nil}
use Rattle.allocative_graph.proofs.Children.{rows-cons, Lacks, lacks_equal, size_under-lacks, read-lacks, read-found}
use Rattle.allocative_graph.proofs.Children.{other_than, at_last, below_last, fits_at_found, last_total, total_at_found}
use Rattle.allocative_graph.proofs.Children.{total_at_gap}
use Rattle.std.proofs.lemmas.List.Folds.{fold_stays, length-flat_map-take}
use Rattle.std.proofs.lemmas.{List.Sums.sum_by_more_le, List.take_all, List.drop_all, List.set-get_or, Bool.cases_lt}
use Rattle.std.proofs.lemmas.{List.Elements.recursion_from_All, List.Concat.length-flat_map}
use Rattle.allocative_graph.proofs.{Basics.on_test, Graphs.is_sum_of, Graphs.total-sum_of, Graphs.total-under}
use Rattle.allocative_graph.proofs.{Graphs.size_at-default, Graphs.size_at-sum_of, Graphs.has-sum_of}

-- ---- what a node has below a key
-- The sum of the sizes of the rows whose paths begin with q.
abbrev whole_in : List (Path × ℕ) → Path → ℕ
whole_in rs q = sum_by (λ e. cond (begins q e.0) e.1 0) rs

module _ (k : Key) (p : Path) where
  -- The sizes below a key that was found are those of its child.
  pub size_under-found : (cs : List Child) (i : ℕ) (d : Child) → InOrder cs → i < length cs → (get_or cs i d).key ≡ k →
      size_under cs k p ≡ get (get_or cs i d).graph p
  size_under-found = read-found (λ cs. size_under cs k p) (λ c. get c.graph p) k (λ c cs. refl)

  -- The bytes that the child with the key has at the path and below it.
  abbrev whole_under : List Child → ℕ
  whole_under [] = 0
  whole_under (c ∷ cs) = cond (eq_by_cmp key_cmp k c.key) (total_at c.graph p) (whole_under cs)

  whole-lacks : (cs : List Child) → Lacks k cs → whole_under cs ≡ 0
  whole-lacks = read-lacks whole_under (λ c. total_at c.graph p) k (λ c cs. refl)

  whole-found : (cs : List Child) (i : ℕ) (d : Child) → InOrder cs → i < length cs → (get_or cs i d).key ≡ k →
      whole_under cs ≡ total_at (get_or cs i d).graph p
  whole-found = read-found whole_under (λ c. total_at c.graph p) k (λ c cs. refl)

  whole-rows : (cs : List Child) → InOrder cs → whole_in (rows_of cs) (k ∷ p) ≡ whole_under cs
  unfolding IsStrictlySortedBy
  whole-rows [] h = refl
  whole-rows (c ∷ cs) h =
      let rest = whole-rows cs h.1 in
      rows-cons (λ r. cond (begins (k ∷ p) r.0) r.1 0) c cs
      ∙ on_test (λ t. sum_by (λ r. cond (t && begins p r.0) r.1 0) (entries c.graph) + whole_in (rows_of cs) (k ∷ p)
      ≡ cond t (total_at c.graph p) (whole_under cs)) (eq_by_cmp key_cmp k c.key)
      (λ e. omega (arith, rest, whole-lacks cs (lacks_equal k c.key cs e h.0)))
      (λ e. omega (arith, rest, fold_stays (λ n (r : Path × ℕ). n + 0) 0 (λ r. refl) (entries c.graph)))

  -- The bytes of a node below a key are those of its children.
  whole-node : (n : ℕ) (cs : List Child) → InOrder cs → total_at (node n cs) (k ∷ p) ≡ whole_under cs
  whole-node n cs o = omega
      (arith, ap (λ rs. whole_in rs (k ∷ p)) (entries-node n cs o), sum_by-cons {X = Path × ℕ}, whole-rows cs o)

-- The bytes at a path below a child's key, and below that path, are those of the child.
pub total_at-child : (n : ℕ) (cs : List Child) (i : ℕ) (d : Child) (p : Path) → InOrder cs → i < length cs →
    total_at (node n cs) ((get_or cs i d).key ∷ p) ≡ total_at (get_or cs i d).graph p
total_at-child n cs i d p o w = whole-node (get_or cs i d).key p n cs o
    ∙ whole-found (get_or cs i d).key p cs i d o w refl

-- ---- the graph at a path
-- The graph at the root's path is the whole graph.
pub behind_root : (g : Graph) → IsTree g → IsBehind g [] g
behind_root g t = record { there = t.root; sizes = λ q. refl; totals = λ q. refl; same_size = refl; same_total = refl }

-- g is the graph of a node, and the path has the key k and then p.
module _ {n s : ℕ} {cs ds : List Child} {g : Graph} {path : Path} {k : Key} {p : Path} (view : node n cs ≡ g)
    (h : IsNode cs s n) (same : ds ≡ cs) (is : path ≡ k ∷ p) where
  in_order : InOrder ds
  in_order = subst InOrder (sym same) h.children.sorted

  module _ {i : ℕ} (d : Child) (f : IsFound ds k i) where
    -- A path of the child has its size in the node, after the child's key.
    at : (q : Path) → get (node n ds) (k ∷ q) ≡ get (get_or ds i d).graph q
    at q = get-under n ds k q in_order ∙ size_under-found k q ds i d in_order f.within (f.same d)

    -- A path of the child has its bytes, with all below it, in the node, after the child's key.
    whole : (q : Path) → total_at (node n ds) (k ∷ q) ≡ total_at (get_or ds i d).graph q
    whole q = whole-node k q n ds in_order ∙ whole-found k q ds i d in_order f.within (f.same d)

    -- What the child has at p, the node has at the path.
    pub behind_child : (x : Graph) → IsBehind (get_or ds i d).graph p x → IsBehind g path x
    behind_child x b = subst₂ (λ y q. IsBehind y q x) (ap (node n) same ∙ view) (sym is) (record {
      there = ap is_some (at p) ∙ b.there;
      sizes = λ q. b.sizes q ∙ sym (at (p ++ q));
      totals = λ q. b.totals q ∙ sym (whole (p ++ q));
      same_size = b.same_size ∙ ap (λ o. unwrap_or o 0) (sym (at p));
      same_total = b.same_total ∙ sym (whole p);
    })

    -- If the child has nothing at p, the node has nothing at the path.
    pub missing_child : HasNothing (get_or ds i d).graph p → HasNothing g path
    missing_child m = subst₂ HasNothing (ap (node n) same ∙ view) (sym is)
        (record {
          missing = ap is_some (at p) ∙ m.missing;
          below = λ q. ap is_some (at (p ++ q)) ∙ m.below q;
          nothing = whole p ∙ m.nothing;
        })

  -- If a key was not found, the node has nothing at the path and below it.
  pub missing_key : {i : ℕ} → IsChildGap ds k i → HasNothing g path
  missing_key {i = i} gap =
      let none = λ (j : ℕ) (d : Child) (w : j < length ds). ⊎_elim
      (λ low. other_than (get_or ds j d).key k (gap.between.0 j d (omega arith) low))
      (λ high. other_than (get_or ds j d).key k (gap.between.1 j d high w)) (cases_lt j i) in
      let missing = λ (q : Path). ap is_some (get-under n ds k q in_order ∙ size_under-lacks ds k q none) in
      subst₂ HasNothing (ap (node n) same ∙ view) (sym is) (record {
        missing = missing p;
        below = λ q. missing (p ++ q);
        nothing = whole-node k p n ds in_order ∙ whole-lacks k p ds none;
      })

-- A child has fewer paths than its node.
pub smaller_child : (n : ℕ) (cs : List Child) (i : ℕ) (d : Child) → InOrder cs → i < length cs →
    len (get_or cs i d).graph < len (node n cs)
smaller_child n cs i d o h =
    let rows = length-flat_map-take rows_of_child cs i d h in
    omega (arith, ap length (entries-node n cs o), len-entries (node n cs), rows, len-child)

-- ---- the figures of a node: its own, and then those of its children, one child after another
-- The figures of some paths with their sizes, with some keys before them. The bytes of each path and of all below it
-- are those that t has.
abbrev figured : (Path → ℕ) → Path → List (Path × ℕ) → List Figures
figured t ks rs = map (λ e. record { path = ks ++ e.0; self_size = e.1; total_size = t e.0 }) rs

-- The figures of the paths of a child, with some keys before its own.
abbrev pub child_figures : Path → Child → List Figures
child_figures ks c = figures_behind (ks ++ c.key ∷ []) c.graph

-- Putting a key before the paths is the same as adding it at the end of the keys before them.
figured-under : (t u : Path → ℕ) (ks : Path) (k : Key) (rs : List (Path × ℕ)) → ((q : Path) → t (k ∷ q) ≡ u q) →
    figured u (ks ++ k ∷ []) rs ≡ figured t ks (under_rows k rs)
figured-under t u ks k [] h = refl
figured-under t u ks k (r ∷ rs) h = rw (append_assoc ks (k ∷ []) r.0, ← h r.0, figured-under t u ks k rs h)

-- The figures of the rows of some children are those of the children, if t has their bytes.
figured-rows : (t : Path → ℕ) (ks : Path) (cs : List Child)
    → AllByRecursion (λ c. (q : Path) → t (c.key ∷ q) ≡ total_at c.graph q) cs →
    figured t ks (rows_of cs) ≡ flat_map (child_figures ks) cs
figured-rows t ks [] h = refl
figured-rows t ks (c ∷ cs) h =
    rw (map-append, ← figured-under t (total_at c.graph) ks c.key (entries c.graph) h.0, figured-rows t ks cs h.1)

-- If all children are trees, they have with each path below a key also the path with its last key left out.
has_parent : (cs : List Child) (l : Key) (p : Path) (k : Key) → AllByRecursion (λ (c : Child). IsTree c.graph) cs →
    is_some (size_under cs l (p ++ k ∷ [])) ≡ true → is_some (size_under cs l p) ≡ true
has_parent [] l p k h e = e
has_parent (c ∷ cs) l p k h e = grind (arith, h.0.closed p k, has_parent cs l p k h.1)

-- A node is a tree if its children are in the order of their keys and are trees.
pub node_tree : (n : ℕ) (cs : List Child) → AreChildren cs → IsTree (node n cs)
node_tree n cs h = record { root = ap is_some (get-root n cs h.sorted); closed = from }
  where
    from : (p : Path) (k : Key) → contains_key (node n cs) (p ++ k ∷ []) ≡ true → contains_key (node n cs) p ≡ true
    from [] k e = ap is_some (get-root n cs h.sorted)
    from (l ∷ p) k e = ap is_some (get-under n cs l p h.sorted)
        ∙ has_parent cs l p k h.trees (ap is_some (sym (get-under n cs l (p ++ k ∷ []) h.sorted)) ∙ e)

-- If the children of two nodes were merged and their own sizes added, the second graph was added to the first.
pub added_node : (all : Bool) (m n : ℕ) (cs ds es : List Child) → AreChildren cs → AreChildren ds →
    Merged all cs ds es → Added all (node m cs) (node n ds) (node (m + n) es)
added_node all m n cs ds es a b h = record {
  tree = node_tree (m + n) es h.children;
  adds = each;
  at_most = omega
      (arith, h.at_most, total-node m cs a.sorted, total-node n ds b.sorted, total-node (m + n) es h.children.sorted);
}
  where
    each : (p : Path) → Adds all (get (node m cs) p) (get (node n ds) p) (get (node (m + n) es) p)
    each [] = rw (get-root m cs a.sorted, get-root n ds b.sorted, get-root (m + n) es h.children.sorted) (grind arith)
    each (k ∷ p) =
        rw (get-under m cs k p a.sorted, get-under n ds k p b.sorted, get-under (m + n) es k p h.children.sorted)
        (h.adds k p)

-- If all was added, the result is the sum.
pub added_sum : {all : Bool} {g h r : Graph} → Added all g h r → all ≡ true → r ≡ sum_of g h
added_sum {g = g} {h = h} {r = r} added done = is_sum_of g h r (λ p. (added.adds p).1 done)

-- With one child merged into its children, a node is a node if the bytes fit.
pub grown : {all : Bool} {cs es : List Child} {d : Child} {size n : ℕ} →
    Merged all cs (d ∷ []) es → size ≡ total_of es →
    n + total_of cs + total d.graph < 2 ^ 64 → IsNode es size n
grown m is fits = record { children = m.children; size = is; fits = omega (arith, m.at_most, is, fits) }

-- With one child merged into its children, a node has the graph under that child's key added.
pub added_under : {all : Bool} {m s : ℕ} {cs es : List Child} {g : Graph} (c : Child) → node m cs ≡ g → IsNode cs s m →
    IsTree c.graph → Merged all cs (c ∷ []) es → Added all g (under c.key c.graph) (node m es)
added_under {all = all} {m = m} {cs = cs} {es = es} {g = g} c view a t h =
    let no_more : m + 0 ≡ m = omega arith in
    subst₂ (λ f x. Added all f x (node m es)) view (node_of_one c)
    (subst (λ n. Added all (node m cs) (node 0 (c ∷ [])) (node n es)) no_more
    (added_node all m 0 cs (c ∷ []) es a.children (one_child c t) h))

-- A node has one path more than its children have rows.
pub rows_of_node : (n : ℕ) (cs : List Child) → AreChildren cs → len (node n cs) ≡ length (rows_of cs) + 1
rows_of_node n cs h = omega (arith, len-entries (node n cs), ap length (entries-node n cs h.sorted))

-- ---- the number of paths
-- The paths of the graphs of some children.
abbrev pub paths_of : List Child → ℕ
paths_of cs = sum_by (λ c. len c.graph) cs

-- The graph g of a node has the path of its root, and those of its children.
pub paths_in : {n s : ℕ} {cs ds : List Child} {g : Graph} → node n cs ≡ g → IsNode cs s n → ds ≡ cs →
    len g ≡ 1 + paths_of ds
paths_in {n = n} {cs = cs} view h same =
    let rows = length-flat_map rows_of_child cs ∙ (λ i. sum_by (λ c. len-child c i) cs) in
    let all = ap length (entries-node n cs h.children.sorted) in
    omega (arith, ap (λ (x : Graph). len x) view, ap paths_of same, rows, len-entries (node n cs), all)

-- The root, the paths of the children before one and those of that one are within the paths of the graph g.
pub child_within : {n s : ℕ} {cs ds : List Child} {g : Graph} {i : ℕ} {d : Child} → node n cs ≡ g → IsNode cs s n →
    ds ≡ cs → i < length ds → d ≡ get_or ds i d → 1 + paths_of (take i ds) + len d.graph ≤ len g
child_within {n = n} {cs = cs} {ds = ds} {i = i} {d = d} view h same w at =
    let one = sum_by_more_le (λ (c : Child). len c.graph) ds i d w in
    omega (arith, one, paths_in view h same, ap (λ (c : Child). len c.graph) at)

-- ---- what is known of the graph g of a node
module _ {n s : ℕ} {cs : List Child} {g : Graph} (view : node n cs ≡ g) (h : IsNode cs s n) where
  -- The total of a node is its own size and those of its children.
  pub total_of_node : total g ≡ n + total_of cs
  total_of_node = ap total (sym view) ∙ total-node n cs h.children.sorted

  -- The own size of a node is that of the root.
  pub own_of_node : size_at g [] ≡ n
  own_of_node = ap (λ x. size_at x []) (sym view) ∙ ap (λ o. unwrap_or o 0) (get-root n cs h.children.sorted)

  -- The entries of a node are its own and the rows of its children.
  pub entries_of_node : entries g ≡ ([], n) ∷ rows_of cs
  entries_of_node = ap entries (sym view) ∙ entries-node n cs h.children.sorted

  -- A node is the graph of a tree.
  pub tree_of_node : IsTree g
  tree_of_node = subst IsTree view (node_tree n cs h.children)

  -- A node has one path more than its children.
  pub len_of_node : len g ≡ length (rows_of cs) + 1
  len_of_node = ap len (sym view) ∙ rows_of_node n cs h.children

  -- The figures of a node are its own and those of its children.
  pub figures_of_node : (ks : Path) → figures_behind ks g
      ≡ record { path = ks; self_size = n; total_size = total g } ∷ flat_map (child_figures ks) cs
  figures_of_node ks = ap (figured (total_at g) ks) entries_of_node
      ∙ (λ i. record { path = append-nil ks i; self_size = n; total_size = total g }
      ∷ figured-rows (total_at g) ks cs (recursion_from_All
      (λ (c : Child). (q : Path) → total_at g (c.key ∷ q) ≡ total_at c.graph q) cs
      (λ j d w q. subst (λ (x : Graph). total_at x ((get_or cs j d).key ∷ q) ≡ total_at (get_or cs j d).graph q) view
      (total_at-child n cs j d q h.children.sorted w))) i)

-- ---- one child merged into the children of a node with the graph g
module _ {n s : ℕ} {cs es : List Child} {g f : Graph} {k : Key} (view : node n cs ≡ g) (h : IsNode cs s n)
    (t : IsTree f) (m : Merged true cs (record { key = k; graph = f } ∷ []) es) where
  -- The node has the graph under the key of the child added.
  pub sum_grown : node n es ≡ sum_of g (under k f)
  sum_grown = added_sum (added_under (record { key = k; graph = f }) view h t m) refl

  -- What holds of each node holds of it with the bytes of the child.
  pub node_grown : {added : ℕ} → added ≡ total f → total g + total f < 2 ^ 64 → IsNode es (s + added) n
  node_grown is fits =
      let own = total_of_node view h in
      let all : n + total_of es ≡ total g + total f =
      sym (total-node n es m.children.sorted) ∙ ap total sum_grown ∙ total-sum_of g (under k f)
      ∙ ap (λ k. total g + k) (total-under k f) in
      record {
        children = m.children;
        size = omega (arith, all, own, h.size);
        fits = omega (arith, all, own, h.size, fits);
      }

-- A child that comes after all others is put at the end.
pub pushed : {n s : ℕ} {cs : List Child} {g f : Graph} {k : Key} → node n cs ≡ g → IsNode cs s n → IsTree f →
    ComesLast g k → let c : Child = record { key = k; graph = f } in Merged true cs (c ∷ []) (cs ++ c ∷ [])
pushed {n = n} {cs = cs} {f = f} {k = k} view h t last =
    let o = h.children.sorted in
    let c : Child = record { key = k; graph = f } in
    put_at_gap c refl (record {
      within = omega arith;
      between = (
        (λ j d low w. last (get_or cs j d).key []
            (subst (λ (x : Graph). contains_key x ((get_or cs j d).key ∷ []) ≡ true) view
            (ap is_some
            (get-under n cs (get_or cs j d).key [] o ∙ size_under-found (get_or cs j d).key [] cs j d o w refl)
            ∙ (All-from_recursion (λ (x : Child). IsTree x.graph) cs h.children.trees j d w).root))),
        (λ j d high w. absurd (omega arith)),
      );
    })
    (λ i. sym (take_all (length cs) cs (omega arith)) i ++ c ∷ sym (drop_all (length cs) cs (omega arith)) i)
    h.children t

-- ---- two nodes with the graphs g and h, whose children merge to es, also if equal lists are named
module _ {g h : Graph} {m n s t : ℕ} {cs ds : List Child} (mine : node m cs ≡ g) (a : IsNode cs s m)
    (theirs : node n ds ≡ h) (b : IsNode ds t n) where
  -- The totals of two nodes together are their own sizes and those of all children.
  pub total_of_both : total g + total h ≡ (m + n) + (total_of cs + total_of ds)
  total_of_both = omega (arith, total_of_node mine a, total_of_node theirs b)

  -- Merged children with both own sizes are a node.
  pub merged_node : {all : Bool} {cs' ds' es : List Child} {size : ℕ} → cs' ≡ cs → ds' ≡ ds →
      total g + total h < 2 ^ 64 → Merged all cs' ds' es → size ≡ total_of es → IsNode es size (m + n)
  merged_node e f fits k is = record {
    children = k.children;
    size = is;
    fits = omega (arith, total_of_both, k.at_most, ap total_of e, ap total_of f, is, fits);
  }

  -- Merged children with both own sizes are the sum of the graphs.
  pub merged_graph : {all : Bool} {cs' ds' es : List Child} → cs' ≡ cs → ds' ≡ ds → Merged all cs' ds' es →
      Added all g h (node (m + n) es)
  merged_graph {all = all} {es = es} e f k =
      subst₂ (λ x y. Added all x y (node (m + n) es)) mine theirs
      (added_node all m n cs ds es a.children b.children (subst₂ (λ x y. Merged all x y es) e f k))

  -- The second node has one child.
  pub child_of_one : {c : Child} → c ∷ [] ≡ ds → total g + total h < 2 ^ 64 →
      (len c.graph < len h) × IsTree c.graph × (s + total c.graph < 2 ^ 64)
  child_of_one {c = c} one fits = (
    omega
        (arith, len_of_node theirs b, ap (λ l. length (rows_of l)) one, length-append (rows_of_child c) [], len-child),
    (subst AreChildren (sym one) b.children).trees.0,
    omega (arith, total_of_both, ap total_of one, a.size, fits),
  )

-- ---- bytes at one path
-- A node without children has the graph of its own bytes.
pub node_leaf : (n : ℕ) → node n [] ≡ add_self n default
node_leaf n =
    sym (insert_root 0 n [] no_children.sorted) ∙ ap (λ (g : Graph). insert g [] n) node_nil
    ∙ ap (insert default []) (sym (ap (λ m. m + n) (size_at-default []) ∙ zero-add n))

-- The graph of a path is a tree.
pub tree-path : (p : Path) (n : ℕ) → IsTree (graph_of_path p n)
tree-path [] n = subst IsTree (node_leaf n) (node_tree n [] no_children)
tree-path (k ∷ p) n =
    let c = child_of_path k p n in
    subst IsTree (node_of_one c) (node_tree 0 (c ∷ []) (one_child c (tree-path p n)))

-- The graph of a path has its bytes, and no others.
pub total-path : (p : Path) (n : ℕ) → total (graph_of_path p n) ≡ n
total-path [] n = ap total (sym (node_leaf n)) ∙ total-node n [] no_children.sorted ∙ add-zero n
total-path (k ∷ p) n = total-under k (graph_of_path p n) ∙ total-path p n

-- What holds of a node whose only child has n bytes at one path alone.
pub node_of_path : (k : Key) (p : Path) (n : ℕ) → n < 2 ^ 64 → IsNode (child_of_path k p n ∷ []) n 0
node_of_path k p n fits = record {
  children = one_child (child_of_path k p n) (tree-path p n);
  size = omega (arith, total-path p n);
  fits = omega arith;
}

-- A node with bytes added to its own size has the graph of these bytes added.
pub sum_raised : {n s : ℕ} {cs : List Child} {g : Graph} → node n cs ≡ g → IsNode cs s n → (m : ℕ) →
    node (n + m) cs ≡ sum_of g (add_self m default)
sum_raised {n = n} {cs = cs} view h m =
    subst₂ (λ x y. node (n + m) cs ≡ sum_of x y) view (node_leaf m)
    (added_sum (added_node true n m cs [] cs h.children no_children (merged_same cs h.children)) refl)

-- The sum of two trees adds up.
pub added_trees : (g h : Graph) → IsTree g → IsTree h → Added true g h (sum_of g h)
added_trees g h s t = record {
  tree = record {
    root = grind (arith, has-sum_of g h [], s.root);
    closed = λ p k e. grind (arith, has-sum_of g h p, has-sum_of g h (p ++ k ∷ []), s.closed p k, t.closed p k, e);
  };
  adds = λ p. grind (arith, size_at-sum_of g h p, has-sum_of g h p);
  at_most = omega (arith, total-sum_of g h);
}

-- ---- n bytes at the path p below the child x, which was found by its key k
module _ (k : Key) (p : Path) (n : ℕ) (x : Child) {cs ds : List Child} {i : ℕ} (same : ds ≡ cs) (found : IsFound ds k i)
    (there : x ≡ get_or cs i x) where
  -- If the bytes were added to the graph of x, they were merged into the children.
  pub path_merged : {g : Graph} → AreChildren cs → g ≡ sum_of x.graph (graph_of_path p n) →
      Merged true cs (child_of_path k p n ∷ []) (set cs i (with_graph x g))
  path_merged {g = g} h is =
      let c = child_of_path k p n in
      let within : i < length cs = (subst (λ (l : List Child). IsFound l k i) same found).within in
      let tree : IsTree x.graph = subst (λ (y : Child). IsTree y.graph) (sym there)
      (All-from_recursion (λ (y : Child). IsTree y.graph) cs h.trees i x within) in
      put_at_found same found there g c refl h (subst (Added true x.graph c.graph) (sym is)
      (added_trees x.graph c.graph tree (tree-path p n)))

-- If the graph of a child that was found did not change, the children did not change.
pub set_back : (cs : List Child) (i : ℕ) (x : Child) (g : Graph) → x ≡ get_or cs i x → g ≡ x.graph →
    set cs i (with_graph x g) ≡ cs
set_back cs i x g there is =
    ap (λ (f : Graph). set cs i (with_graph x f)) is ∙ ap (set cs i) there ∙ set-get_or cs i x

-- What adding bytes at one path needs: what a node has with a child of one path merged into its children.
pub ruleset at_one_path = (node_grown, sum_grown, tree-path, total-path)

-- What the rows of one child more are.
pub ruleset more_rows = (take_more, figures_of_node)

-- What the graph at a path needs of the child on the way.
pub ruleset behind = (behind_child, missing_child)

-- What a child that is added leaves.
pub ruleset adding_child = (total_of_node, grown, sum_grown)

-- Those of bytes added to the root.
pub ruleset adding_self = (total_of_node, own_of_node, insert_root)

-- Those of two nodes that become one.
pub ruleset merging = (total_of_both, len_of_node, merged_node, grown, last_total)

-- Those of a copied node.
pub ruleset copying = (nil_from_length, entries_of_node, own_of_node)

-- Those of a key's place among children.
pub ruleset placing = (at_last, below_last, exact_bytes)

-- Those of a child put among children.
pub ruleset putting = (total_at_gap, total_at_found, fits_at_found)

-- Those of bytes added at a path of a graph.
pub ruleset adding_at = (total_of_node, sum_raised, at_one_path, nil_from_length)

-- Those of bytes added at a path below children.
pub ruleset adding_below = (fits_at_found, put_at_gap, set_back, at_one_path)

-- Those of a node without children.
pub ruleset leaf = (node_leaf, no_children, nil_from_length)

-- Those of the number of paths.
pub ruleset counting = (take_all, paths_in, child_within)
