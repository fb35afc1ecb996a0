-- Children in the order of their keys: their totals and rows, the sizes below their keys, what a search finds, the node
-- that has them, and merging them.
use Rattle.std.proofs.Common.{◌≡◌, ℕ, ◌+◌, ◌<◌, List, [], ◌∷◌, ◌++◌, length, take, get_or, refl, ap, ◌∙◌, arith, sum_by}
use Rattle.std.proofs.Common.{append-nil, true, false, Option, None, sym, subst, subst₂, ◌-◌, Result, Ok, Err, IfOk}
use Rattle.std.proofs.Common.{IfErr, IsTrue, cond, Some, ◌≤◌, ◌&&◌, Bool, length-append, append_assoc, true≢false}
use Rattle.std.proofs.Common.{is_ok, zero, suc, set, ⊎_elim}
use Rattle.allocative_graph.proofs.Common.{entries, Child, Path, total, rows_of, rows_of_child, total_of, take_more}
use Rattle.allocative_graph.proofs.Common.{flat_map-append, fold-map, sum_by-cons, eq_by_cmp, is_eq, get, Key, key_cmp}
use Rattle.allocative_graph.proofs.Common.{Less, default, size_under, AllAbove, All-from_recursion, Equal, Greater}
use Rattle.allocative_graph.proofs.Common.{ordering_reverse, nat_list_cmp_total, IsTree, AreChildren, InOrder}
use Rattle.allocative_graph.proofs.Common.{length-map, keys_of, is_lt, IsFound, IsChildGap, from_entries}
use Rattle.allocative_graph.proofs.Common.{same_entries_map, get-from_sorted, get-entries, find, under, under_rows}
use Rattle.allocative_graph.proofs.Common.{node, path_cmp, entries-node, entries-insert, entries-from_sorted, put}
use Rattle.allocative_graph.proofs.Common.{insert, len, len-child, Graph, Added, Merged, sum_by-append, All, Equal-is}
use Rattle.allocative_graph.proofs.Common.{tied_then, exact_bytes, MergesFirst, eq_by_cmp_equiv, tied_itself}
use Rattle.std.specs.List.Sorted.{IsStrictlySortedBy, IsSearchInRange, IsBinarySearchResult}
use Rattle.std.proofs.lemmas.List.Sums.{sum_by-set, sum_by-insert, get_or-le-sum_by}
use Rattle.std.proofs.lemmas.List.Recursion.{found_at, found_nowhere}
use Rattle.allocative_graph.proofs.Basics.{each-map, each-implies, entries-from_entries-sorted, path_total, and_assoc}
use Rattle.allocative_graph.proofs.Basics.{and-true}
use Rattle.std.proofs.lemmas.List.{get_or-map, get_or_default}
use Rattle.std.specs.Option.{option_or, option_to_list}
use Rattle.std.proofs.lemmas.{Map.Keys.Less-from_sorted, List.Sorted.searchable_from_sorted, Bool.cases_lt}
use Rattle.std.specs.{List.insert as insert_at, declared.cmp.Ordering.Ordering, Result.result_and}
use Rattle.allocative_graph.specs.{Representation.Children.front_order, Representation.NodeRows.node_sorted}

-- ---- totals and rows
-- One more child in front adds the total of its graph.
pub total_of-cons : (c : Child) (cs : List Child) → total_of (c ∷ cs) ≡ total c.graph + total_of cs
total_of-cons = sum_by-cons (λ c. total c.graph)

-- A sum over the rows of one child more in front.
pub rows-cons : (w : Path × ℕ → ℕ) (c : Child) (cs : List Child)
    → sum_by w (rows_of (c ∷ cs)) ≡ sum_by (λ r. w (c.key ∷ r.0, r.1)) (entries c.graph) + sum_by w (rows_of cs)
rows-cons w c cs = sum_by-append w (rows_of_child c) (rows_of cs)
    ∙ ap (λ n. n + sum_by w (rows_of cs)) (fold-map (λ n r. n + w r) (λ r. (c.key ∷ r.0, r.1)) 0 (entries c.graph))

-- The totals of some children are the sizes of their rows, added up.
pub total_of-rows : (cs : List Child) → sum_by (λ r. r.1) (rows_of cs) ≡ total_of cs
total_of-rows [] = refl
total_of-rows (c ∷ cs) = omega (arith, rows-cons (λ r. r.1) c cs, total_of-rows cs, total_of-cons c cs)

-- The rows of one child more.
pub rows-more : (cs : List Child) (i : ℕ) (d : Child) → i < length cs →
    rows_of (take (i + 1) cs) ≡ rows_of (take i cs) ++ rows_of_child (get_or cs i d)
rows-more cs i d w =
    ap rows_of (take_more cs i d w) ∙ flat_map-append rows_of_child (take i cs) (get_or cs i d ∷ [])
    ∙ ap (λ r. rows_of (take i cs) ++ r) (append-nil (rows_of_child (get_or cs i d)))

-- ---- the sizes below a key that a child has, or none
-- No child has the key k.
abbrev pub Lacks : Key → List Child → Type 0
Lacks k cs = All (λ c. eq_by_cmp key_cmp k c.key ≡ false) cs

-- No child has a key that is below the keys of all children.
pub lacks-above : (k : Key) (cs : List Child) → AllAbove cs k → Lacks k cs
lacks-above k cs h = λ i d w. ap is_eq (All-from_recursion (λ (c : Child). key_cmp k c.key ≡ Less) cs
    (each-map (λ l. key_cmp k l ≡ Less) (λ (c : Child). c.key) cs h) i d w)

-- The keys rise from place to place.
pub rises : (cs : List Child) (i j : ℕ) (d : Child) → InOrder cs → i < j → j < length cs →
    key_cmp (get_or cs i d).key (get_or cs j d).key ≡ Less
rises cs i j d o low high = subst₂ (λ a b. key_cmp a b ≡ Less)
    (get_or-map (λ (c : Child). c.key) cs i d [] (omega arith)) (get_or-map (λ (c : Child). c.key) cs j d [] high)
    (Less-from_sorted key_cmp (keys_of cs) i j [] o low (omega (arith, length-map {B = Key} cs (λ c. c.key))))

-- Keys that compare as other than equal differ, whichever comes first.
pub other_than : {o : Ordering} (l k : Key) → key_cmp l k ≡ o → eq_by_cmp key_cmp k l ≡ is_eq o
other_than l k h = (eq_by_cmp_equiv nat_list_cmp_total).symm k l ∙ ap is_eq h

-- F reads the first child with the key k, and passes over those before it.
module _ {A : Type 0} (F : List Child → A) (one : Child → A) (k : Key)
    (step : (c : Child) (cs : List Child) → F (c ∷ cs) ≡ cond (eq_by_cmp key_cmp k c.key) (one c) (F cs)) where
  -- If no child has the key, there is what there is without children.
  pub read-lacks : (cs : List Child) → Lacks k cs → F cs ≡ F []
  read-lacks cs h = found_nowhere F (λ c. eq_by_cmp key_cmp k c.key) one (F []) refl step cs
      (record { key = k; graph = default }) (λ i w. h i _ w)

  -- If the key was found, there is what its child has.
  pub read-found : (cs : List Child) (i : ℕ) (d : Child) → InOrder cs → i < length cs → (get_or cs i d).key ≡ k →
      F cs ≡ one (get_or cs i d)
  read-found cs i d o w s = found_at F (λ c. eq_by_cmp key_cmp k c.key) one (F []) refl step cs i d w
      (λ j low. other_than (get_or cs j d).key k
      (subst (λ (l : Key). key_cmp (get_or cs j d).key l ≡ Less) s (rises cs j i d o low w)))
      (subst (λ (l : Key). eq_by_cmp key_cmp k l ≡ true) (sym s) (ap is_eq (tied_itself nat_list_cmp_total k)))

-- If no child has the key k, no size is below k.
pub size_under-lacks : (cs : List Child) (k : Key) (p : Path) → Lacks k cs → size_under cs k p ≡ None
size_under-lacks cs k p = read-lacks (λ cs. size_under cs k p) (λ c. get c.graph p) k (λ c cs. refl) cs

-- No child has a key that is equal to one below the keys of all children.
pub lacks_equal : (k l : Key) (cs : List Child) → eq_by_cmp key_cmp k l ≡ true → AllAbove cs l → Lacks k cs
lacks_equal k l cs e h =
    subst (λ m. Lacks m cs) (sym (exact_bytes k l ((Equal-is (key_cmp k l)).0 e))) (lacks-above l cs h)

-- No size is below a key that is below the keys of all children.
pub none_above : (k l : Key) (p : Path) (cs : List Child) → eq_by_cmp key_cmp k l ≡ true → AllAbove cs l →
    size_under cs k p ≡ None
none_above k l p cs e h = size_under-lacks cs k p (lacks_equal k l cs e h)

-- If k is greater than l, then l is less than k.
pub key_turn : (k l : Key) → key_cmp k l ≡ Greater → key_cmp l k ≡ Less
key_turn k l h = nat_list_cmp_total.antisymm l k ∙ ap ordering_reverse h

-- ---- the first child, and those after it
-- The key of the first child is below the keys of all others.
pub first_below : (c : Child) (cs : List Child) → AreChildren (c ∷ cs) → AllAbove cs c.key
unfolding IsStrictlySortedBy
first_below c cs h = h.sorted.0

-- The children of a root without the first one can also be the children of a root.
pub others : (c : Child) (cs : List Child) → AreChildren (c ∷ cs) → AreChildren cs
unfolding IsStrictlySortedBy
others c cs h = record { sorted = h.sorted.1; trees = h.trees.1 }

-- A root can be without children.
pub no_children : AreChildren []
unfolding IsStrictlySortedBy
no_children = record { sorted = tt; trees = tt }

-- A child can be put before others if its key is below theirs and its graph is a tree.
pub with_first : (c : Child) (cs : List Child) → AllAbove cs c.key → IsTree c.graph → AreChildren cs →
    AreChildren (c ∷ cs)
unfolding IsStrictlySortedBy
with_first c cs above t h = record { sorted = (above, h.sorted); trees = (t, h.trees) }

-- A child can be the only child of a root if its graph is a tree.
pub one_child : (c : Child) → IsTree c.graph → AreChildren (c ∷ [])
one_child c t = with_first c [] tt t no_children

-- A key below that of the first child is below those of all.
pub above_all : (k : Key) (c : Child) (cs : List Child) → key_cmp k c.key ≡ Less → AreChildren (c ∷ cs) →
    AllAbove (c ∷ cs) k
above_all k c cs less h =
    (less, each-implies _ _ (λ l q. nat_list_cmp_total.trans k c.key l less q) (keys_of cs) (first_below c cs h))

-- ---- a search for a key
module _ (cs : List Child) (o : InOrder cs) (k : Key) where
  -- A binary search finds the child with the key, or the gap where it belongs.
  pub searched : (r : Result ℕ ℕ) → IsSearchInRange r (length cs) →
      IsBinarySearchResult (λ (c : Child). key_cmp c.key k) cs r →
      record { found : IfOk r (IsFound cs k); missing : IfErr r (IsChildGap cs k) }
  searched (Ok i) in_range equal =
      record { found = record { within = in_range; same = λ d. exact_bytes _ _ (equal d) }; missing = tt }
  searched (Err i) in_range parted =
      let rise = searchable_from_sorted nat_list_cmp_total (λ (c : Child). c.key) cs k
      (λ i d low high. ap is_lt (nat_list_cmp_total.antisymm (get_or cs (i + 1) d).key (get_or cs i d).key
      ∙ ap ordering_reverse (rises cs i (i + 1) d o (omega arith) high))) in
      record { found = tt; missing = record { within = in_range; between = parted rise } }

  -- If the last key is below k, all keys are.
  pub below_last : (d e : Child) (j : ℕ) → d ≡ get_or cs (length cs - 1) d → key_cmp d.key k ≡ Less → j < length cs →
      key_cmp (get_or cs j e).key k ≡ Less
  below_last d e j last less w =
      let top : key_cmp (get_or cs (length cs - 1) e).key k ≡ Less =
      subst (λ (c : Child). key_cmp c.key k ≡ Less) (last ∙ get_or_default cs (length cs - 1) d e (omega arith)) less in
      ⊎_elim (λ low. nat_list_cmp_total.trans (get_or cs j e).key (get_or cs (length cs - 1) e).key k
      (rises cs j (length cs - 1) e o low (omega arith)) top)
      (λ high. subst (λ i. key_cmp (get_or cs i e).key k ≡ Less) (omega arith) top) (cases_lt j (length cs - 1))

-- The child at the last place is the same whatever is read behind the end.
pub at_last : (cs : List Child) (d x : Child) → 0 < length cs → d ≡ get_or cs (length cs - 1) d →
    get_or cs (length cs - 1) x ≡ d
at_last cs d x some e = get_or_default cs (length cs - 1) x d (omega arith) ∙ sym e

-- ---- the sizes in the graph of a node
-- A search in two lists of rows, one after another, goes on to the second if the first has nothing.
find-both : (q : Path) (es fs : List (Path × ℕ)) →
    find path_cmp q (es ++ fs) ≡ option_or (find path_cmp q es) (find path_cmp q fs)
find-both q [] fs = refl
find-both q (e ∷ es) fs = grind (arith, find-both q es fs)

-- Under the key that is looked up, the search goes on with the rest of the path. Other keys are passed over.
find-under : (k l : Key) (p : Path) (rs : List (Path × ℕ)) →
    find path_cmp (k ∷ p) (under_rows l rs) ≡ cond (eq_by_cmp key_cmp k l) (find path_cmp p rs) None
find-under k l p [] = grind arith
find-under k l p (r ∷ rs) = grind (arith, find-under k l p rs, tied_then (key_cmp k l) (path_cmp p r.0))

-- A search in the rows of children in order finds the size at the path p below the key k.
pub find-rows : (cs : List Child) (k : Key) (p : Path) → InOrder cs →
    find path_cmp (k ∷ p) (rows_of cs) ≡ size_under cs k p
unfolding IsStrictlySortedBy
find-rows [] k p h = refl
find-rows (c ∷ cs) k p h =
    let none = λ (e : IsTrue (eq_by_cmp key_cmp k c.key)). none_above k c.key p cs e h.0 in
    grind (arith, none, find-both, find-under, find-rows cs k p h.1, get-entries c.graph p)

-- At the root, a node with children in order has its own size.
pub get-root : (n : ℕ) (cs : List Child) → InOrder cs → get (node n cs) [] ≡ Some n
get-root n cs h = get-from_sorted path_cmp (([], n) ∷ rows_of cs) [] (node_sorted n cs h)

-- At a path below the root, a node with children in order has the size that they have there.
pub get-under : (n : ℕ) (cs : List Child) (k : Key) (p : Path) → InOrder cs →
    get (node n cs) (k ∷ p) ≡ size_under cs k p
get-under n cs k p h = get-from_sorted path_cmp (([], n) ∷ rows_of cs) (k ∷ p) (node_sorted n cs h) ∙ find-rows cs k p h

-- One child alone is in order.
pub one_sorted : (c : Child) → InOrder (c ∷ [])
unfolding IsStrictlySortedBy
one_sorted c = (tt, tt)

-- The graph with a key before each path is that of a node with one child.
pub node_of_one : (c : Child) → node 0 (c ∷ []) ≡ under c.key c.graph
node_of_one c =
    same_entries_map _ _ (entries-node 0 (c ∷ []) (one_sorted c)
    ∙ sym (entries-from_entries-sorted (([], 0) ∷ rows_of (c ∷ [])) (node_sorted 0 (c ∷ []) (one_sorted c))))
    ∙ ap (λ rs. from_entries (([], 0) ∷ rs)) (append-nil (under_rows c.key (entries c.graph)))

-- ---- a node with another size at its root, and its total
-- A node with no children has only the root.
pub node_nil : node 0 [] ≡ default
node_nil = same_entries_map _ _ (entries-from_sorted path_cmp (([], 0) ∷ []) tt
    ∙ sym (entries-from_entries-sorted (([], 0) ∷ []) tt))

-- Changing a node's own size is changing the size at its root.
pub insert_root : (n m : ℕ) (cs : List Child) → IsStrictlySortedBy key_cmp (keys_of cs) →
    insert (node n cs) [] m ≡ node m cs
insert_root n m cs h =
    same_entries_map _ _ (entries-insert path_total (node n cs) [] m ∙ ap (put path_cmp [] m) (entries-node n cs h)
    ∙ sym (entries-node m cs h))

-- The total of a node is its own size and the totals of its children.
pub total-node : (n : ℕ) (cs : List Child) → IsStrictlySortedBy key_cmp (keys_of cs) →
    total (node n cs) ≡ n + total_of cs
total-node n cs h = omega
    (arith, ap (sum_by (λ (r : Path × ℕ). r.1)) (entries-node n cs h), sum_by-cons {X = Path × ℕ}, total_of-rows)

-- ---- merging children
-- A child with another graph.
abbrev pub with_graph : Child → Graph → Child
with_graph c g = record { key = c.key; graph = g }

-- If no children are merged into cs, the result is cs. So it is if not all was added.
unchanged : {all : Bool} (cs ds : List Child) → AreChildren cs → (all ≡ true → [] ≡ ds) → Merged all cs ds cs
unchanged {all = all} cs ds h none = record {
  children = h;
  above = λ k p q. p;
  adds = λ k p.
      let missing : all ≡ true → None ≡ size_under ds k p = λ w. ap (λ (l : List Child). size_under l k p) (none w) in
      grind (arith, missing);
  at_most = omega arith;
  fewer = omega arith;
}

-- If no children are merged into cs, the result is cs, and all was added.
pub merged_same : (cs : List Child) → AreChildren cs → Merged true cs [] cs
merged_same cs h = unchanged cs [] h (λ w. refl)

-- If not all was added, cs unchanged is a merge of any ds into cs.
pub not_merged : {all : Bool} → all ≡ false → (cs ds : List Child) → AreChildren cs → Merged all cs ds cs
not_merged failed cs ds h = unchanged cs ds h (λ w. absurd (true≢false (sym w ∙ failed)))

-- ---- one child more at the front, of either list or of both
module _ (b : Bool) (c : Child) (cs ds es : List Child) (m : Merged b cs ds es) where
  pub merged_first : AreChildren (c ∷ cs) → AllAbove ds c.key → Merged b (c ∷ cs) ds (c ∷ es)
  merged_first h g = record {
    children = with_first c es (m.above c.key (first_below c cs h) g) h.trees.0 m.children;
    above = λ k p q. (p.0, m.above k p.1 q);
    adds = λ k p. let none = λ (e : eq_by_cmp key_cmp k c.key ≡ true). none_above k c.key p ds e g in
        grind (arith, m.adds k p, none);
    at_most = omega (arith, m.at_most, total_of-cons c cs, total_of-cons c es);
    fewer = omega (arith, m.fewer);
  }

  pub merged_second : AllAbove cs c.key → AreChildren (c ∷ ds) → Merged b cs (c ∷ ds) (c ∷ es)
  merged_second g h = record {
    children = with_first c es (m.above c.key g (first_below c ds h)) h.trees.0 m.children;
    above = λ k p q. (q.0, m.above k p q.1);
    adds = λ k p. let none = λ (e : eq_by_cmp key_cmp k c.key ≡ true). none_above k c.key p cs e g in
        grind (arith, m.adds k p, none);
    at_most = omega (arith, m.at_most, total_of-cons c ds, total_of-cons c es);
    fewer = omega (arith, m.fewer);
  }

-- The graph of d is added to that of c.
pub merged_both : (a b : Bool) (c d : Child) (g : Graph) (cs ds es : List Child) → Merged b cs ds es → d.key ≡ c.key →
    Added a c.graph d.graph g → AreChildren (c ∷ cs) → AllAbove ds d.key →
    Merged (a && b) (c ∷ cs) (d ∷ ds) (with_graph c g ∷ es)
merged_both a b c d g cs ds es m same sum h below = record {
  children =
      with_first (with_graph c g) es (m.above c.key (first_below c cs h) (subst (AllAbove ds) same below)) sum.tree
      m.children;
  above = λ k p q. (p.0, m.above k p.1 q.1);
  adds = λ k p. rw same (grind (arith, m.adds k p, sum.adds p));
  at_most =
      omega (arith, m.at_most, sum.at_most, total_of-cons c cs, total_of-cons d ds, total_of-cons (with_graph c g) es);
  fewer = omega (arith, m.fewer);
}

-- ---- the next child
-- If the first key of cs is less than the first key of ds, or ds has no child, the first child of cs is next.
pub next_less : {cs ds cs' : List Child} {c : Child} → cs ≡ c ∷ cs' → AreChildren cs → AreChildren ds →
    front_order cs ds ≡ Some Less → MergesFirst true cs ds (c ∷ []) cs' ds
next_less {cs = cs} {ds = ds} {cs' = cs'} {c = c} e mine theirs front =
    let all : AreChildren (c ∷ cs') = subst AreChildren e mine in
    rw e (record {
      goes_on = λ b es m. merged_first b c cs' ds es m all (above ds theirs (rw e at front));
      mine = others c cs' all;
      theirs = theirs;
      fewer = omega arith;
      fewer_rows = omega arith;
      fits = omega (arith, total_of-cons c cs');
    })
  where
    above : (ds : List Child) → AreChildren ds → front_order (c ∷ cs') ds ≡ Some Less → AllAbove ds c.key
    above [] h f = tt
    above (d ∷ ds) h f = above_all c.key d ds (cc) h

-- If the first key of cs is greater than the first key of ds, or cs has no child, the first child of ds is next.
pub next_greater : {cs ds ds' : List Child} {d : Child} → ds ≡ d ∷ ds' → AreChildren cs → AreChildren ds →
    front_order cs ds ≡ Some Greater → MergesFirst true cs ds (d ∷ []) cs ds'
next_greater {cs = cs} {ds = ds} {ds' = ds'} {d = d} e mine theirs front =
    let all : AreChildren (d ∷ ds') = subst AreChildren e theirs in
    rw e (record {
      goes_on = λ b es m. merged_second b d cs ds' es m (above cs mine (rw e at front)) all;
      mine = mine;
      theirs = others d ds' all;
      fewer = omega arith;
      fewer_rows = omega (arith, length-append (rows_of_child d) (rows_of ds'));
      fits = omega (arith, total_of-cons d ds');
    })
  where
    above : (cs : List Child) → AreChildren cs → front_order cs (d ∷ ds') ≡ Some Greater → AllAbove cs d.key
    above [] h f = tt
    above (c ∷ cs) h f = above_all d.key c cs (key_turn c.key d.key (cc)) h

-- ---- both have one key: the first child of ds is added to that of cs
pub next_equal : {cs ds cs' ds' : List Child} {c d : Child} {a : Bool} {g : Graph} → cs ≡ c ∷ cs' → ds ≡ d ∷ ds' →
    AreChildren cs → AreChildren ds → front_order cs ds ≡ Some Equal → Added a c.graph d.graph g →
    MergesFirst a cs ds (with_graph c g ∷ []) cs' ds'
next_equal {cs' = cs'} {ds' = ds'} {c = c} {d = d} {a = a} {g = g} e f mine theirs front added =
    let both : front_order (c ∷ cs') (d ∷ ds') ≡ Some Equal = rw (e, f) at front in
    let my_all : AreChildren (c ∷ cs') = subst AreChildren e mine in
    rw (e, f) (record {
      goes_on = λ b es m. merged_both a b c d g cs' ds' es m (sym (exact_bytes c.key d.key (cc))) added my_all
          (first_below d ds' (subst AreChildren f theirs));
      mine = others c cs' my_all;
      theirs = others d ds' (subst AreChildren f theirs);
      fewer = omega arith;
      fewer_rows = omega (arith, length-append (rows_of_child d) (rows_of ds'));
      fits = omega (arith, added.at_most, total_of-cons c cs', total_of-cons d ds');
    })

-- ---- the loop of a merge
-- What is merged first, and then what is merged first of the rest, is merged first of all.
pub merges_then : {all a b : Bool} {cs ds out cs' ds' more cs'' ds'' made : List Child} →
    MergesFirst a cs ds out cs' ds' → MergesFirst b cs' ds' more cs'' ds'' → all ≡ (a && b) → made ≡ out ++ more →
    MergesFirst all cs ds made cs'' ds''
merges_then {a = a} {b = b} {cs = cs} {ds = ds} {out = out}
    {more = more} {cs'' = cs''} {ds'' = ds''} m n all_is made_is =
    rw (all_is, made_is) (record {
      goes_on = λ c es k. rw (and_assoc a b c, append_assoc out more es)
          (m.goes_on (b && c) (more ++ es) (n.goes_on c es k));
      mine = n.mine;
      theirs = n.theirs;
      fewer = omega (arith, m.fewer, n.fewer, length-append out more);
      fewer_rows = omega (arith, m.fewer_rows, n.fewer_rows);
      fits = omega (arith, m.fits, n.fits, sum_by-append (λ (c : Child). total c.graph) out more);
    })

-- When no child of the second list remains, what was merged first and the rest of the first list are the merge of both.
pub merges_rest : {all : Bool} {cs ds out cs' ds' : List Child} → MergesFirst all cs ds out cs' ds' → ds' ≡ [] →
    Merged all cs ds (out ++ cs')
merges_rest {all = all} {cs = cs} {ds = ds} {out = out} {cs' = cs'} m d =
    subst (λ v. Merged v cs ds (out ++ cs')) (and-true all)
    (m.goes_on true cs' (subst (λ l. Merged true cs' l cs') (sym d) (merged_same cs' m.mine)))

-- When no child of either list remains, what was merged first is the merge of both.
pub merges_all : {all : Bool} {cs ds out cs' ds' : List Child} → MergesFirst all cs ds out cs' ds' → cs' ≡ [] →
    ds' ≡ [] → Merged all cs ds out
merges_all {all = all} {cs = cs} {ds = ds} {out = out} m c d =
    subst (Merged all cs ds) (ap (λ l. out ++ l) c ∙ append-nil out) (merges_rest m d)

-- Two results one after another are Ok exactly if each of them is.
pub is_ok-and : {E : Type 0} (r s : Result (Unit {0}) E) → is_ok (result_and r s) ≡ (is_ok r && is_ok s)
is_ok-and r s = grind arith

-- ---- one child and then others
-- If the first child of ds was merged into cs, what merges the others into the result merges all.
pub next_put : {a : Bool} {c : Child} {cs ms ds : List Child} → AreChildren (c ∷ ds) → Merged a cs (c ∷ []) ms →
    MergesFirst a cs (c ∷ ds) [] ms ds
next_put {c = c} {ds = ds} h one = record {
  goes_on = λ b es rest. record {
    children = rest.children;
    above = λ k p q. rest.above k (one.above k p (q.0, tt)) q.1;
    adds = λ k p.
        let none = λ (e : eq_by_cmp key_cmp k c.key ≡ true). none_above k c.key p ds e (first_below c ds h) in
        grind (arith, one.adds k p, rest.adds k p, none);
    at_most = omega (arith, one.at_most, rest.at_most, total_of-cons c ds, total_of-cons c []);
    fewer = omega (arith, one.fewer, rest.fewer);
  };
  mine = one.children;
  theirs = others c ds h;
  fewer = omega (arith, one.fewer);
  fewer_rows = omega (arith, length-append (rows_of_child c) (rows_of ds));
  fits = omega (arith, one.at_most, total_of-cons c ds, total_of-cons c []);
}

-- ---- what is taken off the front
-- If what was taken off the front of a list is x, the list is x followed by the rest.
pub front_is : {X : Type 0} {o : Option X} {x : X} {xs rest : List X} → xs ≡ option_to_list o ++ rest → o ≡ Some x →
    xs ≡ x ∷ rest
front_is {rest = rest} e h = e ∙ ap (λ p. option_to_list p ++ rest) h

-- Which lists have a child, by which of them has the next one.
pub front_there : (cs ds : List Child) (o : Ordering) → front_order cs ds ≡ Some o →
    ((o ≡ Greater → ⊥) → 0 < length cs) × ((o ≡ Less → ⊥) → 0 < length ds)
front_there [] [] o e = absurd (cc)
front_there [] (d ∷ ds) o e = (λ other. absurd (other (cc)), λ _. omega arith)
front_there (c ∷ cs) [] o e = (λ _. omega arith, λ other. absurd (other (cc)))
front_there (c ∷ cs) (d ∷ ds) o e = (λ _. omega arith, λ _. omega arith)

-- A child that was taken off the front has at most the bytes and the rows of all.
module _ {cs : List Child} {o : Option Child} {c : Child} (rest : List Child) (e : cs ≡ option_to_list o ++ rest)
    (h : o ≡ Some c) where
  -- The total of the first child is at most that of all.
  pub front_total : total c.graph ≤ total_of cs
  front_total = omega (arith, ap total_of (front_is e h) ∙ total_of-cons c rest)

  -- The first child has at most as many paths as all children.
  pub front_rows : len c.graph ≤ length (rows_of cs)
  front_rows = omega
      (arith, ap (λ l. length (rows_of l)) (front_is e h), length-append (rows_of_child c) (rows_of rest), len-child)

-- A list of fewer than two items that ends in x has x alone.
pub one_of_length : {X : Type 0} (xs rest : List X) (x : X) → xs ≡ rest ++ x ∷ [] → length xs < 2 → xs ≡ x ∷ []
one_of_length xs [] x e h = e
one_of_length xs (y ∷ rest) x e h = absurd (omega (arith, ap length e, length-append rest (x ∷ [])))

-- The last child has at most the bytes of all.
pub last_total : (cs rest : List Child) (c : Child) → cs ≡ rest ++ c ∷ [] → total c.graph ≤ total_of cs
last_total cs rest c e = omega (arith, ap total_of e, sum_by-append {X = Child}, total_of-cons c [])

-- ---- one child put among others: added to the one that has its key, or in its place
-- A child whose key belongs at a place is merged by putting it there.
inserted : (cs : List Child) (i : ℕ) (c : Child) → AreChildren cs → IsTree c.graph → IsChildGap cs c.key i →
    Merged true cs (c ∷ []) (insert_at cs i c)
inserted [] zero c h t gap = merged_second true c [] [] [] (merged_same [] h) tt (one_child c t)
inserted [] (suc i) c h t gap = absurd (omega (arith, gap.within))
inserted (x ∷ cs) zero c h t gap = merged_second true c (x ∷ cs) [] (x ∷ cs) (merged_same (x ∷ cs) h)
    (above_all c.key x cs (key_turn x.key c.key (gap.between.1 0 x (omega arith) (omega arith))) h) (one_child c t)
inserted (x ∷ cs) (suc i) c h t gap =
    let rest = inserted cs i c (others x cs h) t (record {
      within = omega (arith, gap.within);
      between = (
        (λ j d low w. gap.between.0 (suc j) d (omega arith) (omega arith)),
        (λ j d low w. gap.between.1 (suc j) d (omega arith) (omega arith)),
      );
    }) in
    merged_first true x cs (c ∷ []) (insert_at cs i c) rest h (gap.between.0 0 x (omega arith) (omega arith), tt)

-- A child with the key of another is merged by adding its graph to the graph of that one.
changed : (all : Bool) (cs : List Child) (i : ℕ) (c d : Child) (g : Graph) → AreChildren cs → i < length cs →
    (get_or cs i d).key ≡ c.key → Added all (get_or cs i d).graph c.graph g →
    Merged all cs (c ∷ []) (set cs i (with_graph (get_or cs i d) g))
changed all [] i c d g h w same sum = absurd (omega arith)
changed all (x ∷ cs) zero c d g h w same sum =
    subst (λ (v : Bool). Merged v (x ∷ cs) (c ∷ []) (with_graph x g ∷ cs)) (and-true all)
    (merged_both all true x c g cs [] cs (merged_same cs (others x cs h)) (sym same) sum h tt)
changed all (x ∷ cs) (suc i) c d g h w same sum =
    merged_first all x cs (c ∷ []) _ (changed all cs i c d g (others x cs h) (omega arith) same sum) h
    (subst (λ (k : Key). key_cmp x.key k ≡ Less) same (rises (x ∷ cs) 0 (suc i) d h.sorted (omega arith) w), tt)

-- ---- the key k was found at i, where x is, and x gets the graph g
module _ {k : Key} {x : Child} {cs ds : List Child} {i : ℕ} (same : ds ≡ cs) (found : IsFound ds k i)
    (there : x ≡ get_or cs i x) (g : Graph) where
  here : IsFound cs k i
  here = subst (λ l. IsFound l k i) same found

  -- A child with the key k is merged by adding its graph to that of x.
  pub put_at_found : {all : Bool} (c : Child) → c.key ≡ k → AreChildren cs → Added all x.graph c.graph g →
      Merged all cs (c ∷ []) (set cs i (with_graph x g))
  put_at_found {all = all} c is h sum =
      subst (λ (y : Child). Merged all cs (c ∷ []) (set cs i (with_graph y g))) (sym there)
      (changed all cs i c x g h here.within (here.same x ∙ sym is)
      (subst (λ (y : Child). Added all y.graph c.graph g) there sum))

  -- The totals of all children change as that of x does.
  pub total_at_found : total_of (set cs i (with_graph x g)) + total x.graph ≡ total_of cs + total g
  total_at_found = let t : Child → ℕ = λ y. total y.graph in
      omega (arith, sum_by-set t cs i (with_graph x g) x here.within, ap t there)

-- A child that was found has at most the bytes of all children.
pub fits_at_found : {k : Key} {x : Child} {cs ds : List Child} {i : ℕ} → ds ≡ cs → IsFound ds k i → x ≡ get_or cs i x →
    total x.graph ≤ total_of cs
fits_at_found {x = x} {cs = cs} {i = i} same found there =
    let t : Child → ℕ = λ y. total y.graph in
    omega (arith, get_or-le-sum_by t cs i x (here same found there x.graph).within, ap t there)

-- ---- the key of c was not found, and belongs at i
module _ (c : Child) {cs ds es : List Child} {i : ℕ} (same : ds ≡ cs) (missing : IsChildGap ds c.key i)
    (put : es ≡ insert_at cs i c) where
  -- A child in its gap is merged by inserting it.
  pub put_at_gap : AreChildren cs → IsTree c.graph → Merged true cs (c ∷ []) es
  put_at_gap h t = subst (Merged true cs (c ∷ [])) (sym put)
      (inserted cs i c h t (subst (λ l. IsChildGap l c.key i) same missing))

  -- The totals of all children grow by that of the child.
  pub total_at_gap : total_of es ≡ total_of cs + total c.graph
  total_at_gap = ap total_of put ∙ sum_by-insert (λ (y : Child). total y.graph) cs i c

-- What is known of a child at the front of a list.
pub ruleset at_front = (front_there, front_total, front_rows)
