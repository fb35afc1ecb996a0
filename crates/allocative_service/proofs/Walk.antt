-- The changes of a node are its own and then those of its children, which are taken in the order of their keys.
use Rattle.std.proofs.Common.{◌≡◌, ℕ, ◌+◌, ◌≤◌, ◌==◌, cond, true, Some, IfSome, arith, refl, List, [], ◌∷◌, ◌++◌, length, length-append, sym, ap, subst, subst₂, ◌∙◌, append_assoc, append-nil, flat_map}
use Rattle.std.specs.declared.cmp.Ordering.{Ordering}
use Rattle.allocative_graph.specs.declared.flamegraph.Child.{Child}
use Rattle.allocative_graph.proofs.Common.{AllAbove, AreChildren, Equal, Graph, Greater, IsTree, Key, Less, Merged, Path, MergesFirst, default, entries, entries-node, eq_by_cmp_equiv, exact_bytes, flat_map-append, key_cmp, len, len-child, nat_list_cmp_total, node, rows_of, rows_of_child, size_at, size_under, sum_of, tied_itself, under_rows, unwrap_or}
use Rattle.allocative_graph.proofs.Children.{above_all, first_below, get-root, get-under, key_turn, lacks-above, merged_same, merges_all, merges_then, next_equal, next_greater, next_less, no_children, node_nil, size_under-lacks}
use Rattle.allocative_graph.proofs.Graphs.{size_at-default, sum_of-commutes, sum_of-default}
use Rattle.allocative_graph.proofs.Nodes.{added_node, added_sum, added_trees, rows_of_node}
use Rattle.allocative_service.specs.Changes.{Changed}
use Rattle.allocative_service.specs.Walk.{Next, change_behind, changes_behind, next_by, next_of}

-- The changes of some children behind the keys ks, if s and t have the sizes below each key before and after.
abbrev of_children : (Key → Path → ℕ) → (Key → Path → ℕ) → Path → List Child → List Changed
of_children s t ks es = flat_map (λ e. changes_behind (s e.key) (t e.key) (ks ++ e.key ∷ []) (entries e.graph)) es

-- The changes of children are those of their rows.
module _ (s t : Path → ℕ) (ks : Path) where
  under : (k : Key) (rs : List (Path × ℕ)) →
      changes_behind (λ p. s (k ∷ p)) (λ p. t (k ∷ p)) (ks ++ k ∷ []) rs ≡ changes_behind s t ks (under_rows k rs)
  under k [] = refl
  under k (r ∷ rs) = λ i. cond (s (k ∷ r.0) == t (k ∷ r.0)) []
      (record { path = append_assoc ks (k ∷ []) r.0 i; earlier = s (k ∷ r.0); later = t (k ∷ r.0) } ∷ [])
      ++ under k rs i

  of_rows : (es : List Child) →
      of_children (λ k p. s (k ∷ p)) (λ k p. t (k ∷ p)) ks es ≡ changes_behind s t ks (rows_of es)
  of_rows [] = refl
  of_rows (e ∷ es) = (λ i. under e.key (entries e.graph) i ++ of_rows es i)
      ∙ sym (flat_map-append (λ (r : Path × ℕ). change_behind s t ks r.0) (rows_of_child e) (rows_of es))

-- ---- what is taken of the children of a node
-- The size at the path p below the key k; a missing path counts as 0.
abbrev size_below : List Child → Key → Path → ℕ
size_below cs k p = unwrap_or (size_under cs k p) 0

-- At the key k the children cs have the graph t.0, and the children t.1 after it.
pub record Takes (k : Key) (cs : List Child) (t : Graph × List Child) : Type 0 where
  here : (p : Path) → size_below cs k p ≡ size_at t.0 p
  after : (l : Key) → key_cmp k l ≡ Less → (p : Path) → size_below cs l p ≡ size_below t.1 l p
  pub rows : len t.0 + length (rows_of t.1) + length cs ≡ length (rows_of cs) + 1 + length t.1
  pub fewer : length (rows_of t.1) ≤ length (rows_of cs)

takes_first : (c : Child) (cs : List Child) → Takes c.key (c ∷ cs) (c.graph, cs)
takes_first c cs = record {
  here = λ p. grind (arith, tied_itself nat_list_cmp_total c.key);
  after = λ l less p. grind (arith, less, (eq_by_cmp_equiv nat_list_cmp_total).symm l c.key);
  rows = omega (arith, length-append (rows_of_child c) (rows_of cs), len-child c);
  fewer = omega (arith, length-append (rows_of_child c) (rows_of cs));
}

takes_nothing : (k : Key) (cs : List Child) → AllAbove cs k → Takes k cs (default, cs)
takes_nothing k cs h = record {
  here = λ p. ap (λ o. unwrap_or o 0) (size_under-lacks cs k p (lacks-above k cs h)) ∙ sym (size_at-default p);
  after = λ l less p. refl;
  rows = omega (arith, ap len node_nil, rows_of_node 0 [] no_children);
  fewer = omega arith;
}

-- The children cs and ds of two nodes have n at their first key, and their sum has the graph r there.
abbrev pub Step : List Child → List Child → Next → Type 0
Step cs ds n = (r : Graph) × ((r ≡ sum_of n.1.0 n.2.0)
    × MergesFirst true cs ds (record { key = n.0; graph = r } ∷ []) n.1.1 n.2.1 × Takes n.0 cs n.1 × Takes n.0 ds n.2)

-- ---- only one node has a child c with the first key
module _ (c : Child) (cs ds : List Child) (tree : IsTree c.graph) (above : AllAbove ds c.key) where
  in_first : MergesFirst true (c ∷ cs) ds (c ∷ []) cs ds → Step (c ∷ cs) ds (c.key, (c.graph, cs), (default, ds))
  in_first m = (c.graph, (sym (sum_of-default c.graph tree), m, takes_first c cs, takes_nothing c.key ds above))

  in_second : MergesFirst true ds (c ∷ cs) (c ∷ []) ds cs → Step ds (c ∷ cs) (c.key, (default, ds), (c.graph, cs))
  in_second m =
      let is = sym (sum_of-default c.graph tree) ∙ sum_of-commutes c.graph default in
      (c.graph, (is, m, takes_nothing c.key ds above, takes_first c cs))

-- Both nodes have children.
in_order : (c d : Child) (cs ds : List Child) → AreChildren (c ∷ cs) → AreChildren (d ∷ ds) → (o : Ordering) →
    key_cmp c.key d.key ≡ o → Step (c ∷ cs) (d ∷ ds) (next_by o c cs d ds)
in_order c d cs ds a b Less e =
    in_first c cs (d ∷ ds) a.trees.0 (above_all c.key d ds e b) (next_less refl a b (ap Some e))
in_order c d cs ds a b Greater e =
    let above = above_all d.key c cs (key_turn c.key d.key e) a in
    in_second d ds (c ∷ cs) b.trees.0 above (next_greater refl a b (ap Some e))
in_order c d cs ds a b Equal e =
    let theirs = subst (λ k. Takes k (d ∷ ds) (d.graph, ds)) (sym (exact_bytes c.key d.key e)) (takes_first d ds) in
    let added = added_trees c.graph d.graph a.trees.0 b.trees.0 in
    (sum_of c.graph d.graph, (refl, next_equal refl refl a b (ap Some e) added, takes_first c cs, theirs))

next_step : (cs ds : List Child) → AreChildren cs → AreChildren ds → IfSome (next_of cs ds) (Step cs ds)
next_step [] [] a b = tt
next_step (c ∷ cs) [] a b = in_first c cs [] a.trees.0 tt (next_less refl a b refl)
next_step [] (d ∷ ds) a b = in_second d ds [] b.trees.0 tt (next_greater refl a b refl)
next_step (c ∷ cs) (d ∷ ds) a b = in_order c d cs ds a b (key_cmp c.key d.key) refl

-- ---- a walk over the children cs and ds: it has appended some changes, and cs' and ds' remain
pub record Walks (ks : Path) (cs ds : List Child) (made : List Changed) (cs' ds' : List Child) : Type 0 where
  out : List Child
  first : MergesFirst true cs ds out cs' ds'
  changes : (es : List Child) → Merged true cs' ds' es → of_children (size_below cs) (size_below ds) ks (out ++ es)
      ≡ made ++ of_children (size_below cs') (size_below ds') ks es

-- A walk begins.
pub walk_begins : (ks : Path) (cs ds : List Child) → AreChildren cs → AreChildren ds → Walks ks cs ds [] cs ds
walk_begins ks cs ds a b = record {
  out = [];
  first = record {
    goes_on = λ b es m. m;
    mine = a;
    theirs = b;
    fewer = omega arith;
    fewer_rows = omega arith;
    fits = omega arith;
  };
  changes = λ es m. refl;
}

module _ {ks : Path} {cs ds cs' ds' : List Child} {made : List Changed} (w : Walks ks cs ds made cs' ds') where
  -- What the walk takes next.
  pub step_at : {n : Next} → Some n ≡ next_of cs' ds' → Step cs' ds' n
  step_at e = subst (λ o. IfSome o (Step cs' ds')) (sym e) (next_step cs' ds' w.first.mine w.first.theirs)

  -- The walk goes on with the changes of what it takes.
  pub walk_on : (n : Next) → Step cs' ds' n →
      Walks ks cs ds (made ++ changes_behind (size_at n.1.0) (size_at n.2.0) (ks ++ n.0 ∷ [])
      (entries (sum_of n.1.0 n.2.0))) n.1.1 n.2.1
  walk_on n s =
      let o : Child = record { key = n.0; graph = s.0 } in
      record {
        out = w.out ++ o ∷ [];
        first = merges_then w.first s.1.1 refl refl;
        changes = λ es m. ap (of_children (size_below cs) (size_below ds) ks) (append_assoc w.out (o ∷ []) es)
            ∙ w.changes (o ∷ es) (s.1.1.goes_on true es m)
            ∙ (λ i. made ++ (changes_behind (λ p. s.1.2.here p i) (λ p. s.1.3.here p i) (ks ++ n.0 ∷ [])
            (entries (s.1.0 i)) ++ rest es (first_below o es (s.1.1.goes_on true es m).children) i))
            ∙ sym (append_assoc made (changes_behind (size_at n.1.0) (size_at n.2.0) (ks ++ n.0 ∷ [])
            (entries (sum_of n.1.0 n.2.0))) _);
      }
    where
      rest : (es : List Child) → AllAbove es n.0 → of_children (size_below cs') (size_below ds') ks es
          ≡ of_children (size_below n.1.1) (size_below n.2.1) ks es
      rest [] a = refl
      rest (e ∷ es) a = λ i. changes_behind (λ p. s.1.2.after e.key a.0 p i) (λ p. s.1.3.after e.key a.0 p i)
          (ks ++ e.key ∷ []) (entries e.graph) ++ rest es a.1 i

  -- If nothing remains, the walk has appended the changes of a node but for its own.
  pub walk_ends : (m n : ℕ) → AreChildren cs → AreChildren ds → (cs' ≡ []) × (ds' ≡ [])
      → cond (m == n) [] (record { path = ks; earlier = m; later = n } ∷ []) ++ made
      ≡ changes_behind (size_at (node m cs)) (size_at (node n ds)) ks (entries (sum_of (node m cs) (node n ds)))
  walk_ends m n a b e =
      let s = size_at (node m cs) in
      let t = size_at (node n ds) in
      let merged = merges_all w.first e.0 e.1 in
      let none : Merged true cs' ds' [] =
      subst₂ (λ x y. Merged true x y []) (sym e.0) (sym e.1) (merged_same [] no_children) in
      let below : changes_behind s t ks (rows_of w.out) ≡ made =
      sym (of_rows s t ks w.out)
      ∙ (λ i. of_children (λ k p. unwrap_or (get-under m cs k p a.sorted i) 0)
      (λ k p. unwrap_or (get-under n ds k p b.sorted i) 0) ks (sym (append-nil w.out) i))
      ∙ w.changes [] none ∙ append-nil made in
      let before : s [] ≡ m = ap (λ o. unwrap_or o 0) (get-root m cs a.sorted) in
      let after : t [] ≡ n = ap (λ o. unwrap_or o 0) (get-root n ds b.sorted) in
      sym (ap (changes_behind s t ks) (ap entries (sym (added_sum (added_node true m n cs ds w.out a b merged) refl))
      ∙ entries-node (m + n) w.out merged.children.sorted)
      ∙ (λ i. cond (before i == after i) []
      (record { path = append-nil ks i; earlier = before i; later = after i } ∷ []) ++ below i))
