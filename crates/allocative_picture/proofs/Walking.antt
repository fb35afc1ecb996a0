-- Walks over the paths of a graph, each after some keys: its root, and the rows of its children one after another.
use Rattle.std.proofs.Common.{◌≡◌, ℕ, zero, suc, ◌+◌, ◌<◌, Bool, true, false, cond, is_eq, Less, List, [], ◌∷◌, ◌++◌, map, length}
use Rattle.std.proofs.Common.{get_or, take, sum_by, Bor, refl, sym, ap, subst, ◌∙◌, arith, append_assoc, append-nil, Option, Some, None, T, All}
use Rattle.allocative_picture.proofs.Common.{Path, Sizes, Key, Graph, Child, entries, node, AreChildren, InOrder, texts, map-append}
use Rattle.allocative_picture.proofs.Common.{key_cmp, eq_by_cmp_equiv, nat_list_cmp_total, tied_itself, sum_by-cons, total, total_of}
use Rattle.allocative_picture.proofs.Common.{sum_by_more, find, is_sorted, below_all, path_cmp, is_same_path, same_path, first, second, size_at, total-node}
use Rattle.std.specs.Ordering.{eq_by_cmp}
use Rattle.std.specs.List.Sorted.{IsStrictlySortedBy}
use Rattle.std.proofs.lemmas.List.Elements.{All-head, All-tail}
use Rattle.std.proofs.lemmas.Simd.{map-map}
use Rattle.allocative_graph.proofs.Children.{rows-more, rows-cons, Lacks, lacks-above, rises}
use Rattle.allocative_graph.proofs.Sums.{find-below_all}
use Rattle.allocative_graph.specs.Rows.{rows_of, rows_of_child}
use Rattle.allocative_graph.specs.Representation.Children.{AllAbove}
use Rattle.allocative_graph.specs.Representation.NodeRows.{entries-node}
use Rattle.allocative_picture.specs.Table.{behind}

-- A key that is pushed stands behind the others.
pub pushed_key : (xs ys : List (Bor (List ℕ))) (k : Bor (List ℕ)) (key : List ℕ) → ys ≡ xs ++ k ∷ [] → k.now ≡ key →
    texts ys ≡ texts xs ++ key ∷ []
pushed_key xs ys k key push is = rw (push, map-append) (ap (λ (l : List ℕ). texts xs ++ l ∷ []) is)

-- What F makes of the paths of a node is what it makes of its root and of the rows of its children.
pub node_rows : {X : Type 0} (F : Path × ℕ → X) (n : ℕ) (cs : List Child) (g : Graph) → g ≡ node n cs →
    AreChildren cs → map F (entries g) ≡ F ([], n) ∷ map F (rows_of cs)
node_rows F n cs g whole h = ap (λ (x : Graph). map F (entries x)) whole ∙ ap (map F) (entries-node n cs h.sorted)

-- F makes of the rows of a child what G makes of its paths.
pub child_rows : {X : Type 0} (F G : Path × ℕ → X) (d : Child) → ((e : Path × ℕ) → F (d.key ∷ e.0, e.1) ≡ G e) →
    map F (rows_of_child d) ≡ map G (entries d.graph)
child_rows F G d same = map-map F (λ (e : Path × ℕ). (d.key ∷ e.0, e.1)) (entries d.graph)
    ∙ (λ i. map (λ e. same e i) (entries d.graph))

-- So it is for the rows of one child more.
pub rows_more : {X : Type 0} (F G : Path × ℕ → X) (cs : List Child) (i : ℕ) (d : Child) → i < length cs →
    d ≡ get_or cs i d → ((e : Path × ℕ) → F (d.key ∷ e.0, e.1) ≡ G e) →
    map F (rows_of (take (i + 1) cs)) ≡ map F (rows_of (take i cs)) ++ map G (entries d.graph)
rows_more F G cs i d w at same =
    ap (map F) (rows-more cs i d w ∙ ap (λ (x : Child). rows_of (take i cs) ++ rows_of_child x) (sym at))
    ∙ map-append F (rows_of (take i cs)) (rows_of_child d)
    ∙ ap (λ ys. map F (rows_of (take i cs)) ++ ys) (child_rows F G d same)

-- The paths of a node behind some keys are its root and the rows of its children.
pub node_behind : (ks : Path) (n : ℕ) (cs : List Child) (g : Graph) → g ≡ node n cs → AreChildren cs →
    behind ks (entries g) ≡ (ks, n) ∷ behind ks (rows_of cs)
node_behind ks n cs g whole h = node_rows (λ (e : Path × ℕ). (ks ++ e.0, e.1)) n cs g whole h
    ∙ (λ i. (append-nil ks i, n) ∷ behind ks (rows_of cs))

-- The paths of one child more stand behind its key too.
pub behind_more : (ks : Path) (cs : List Child) (i : ℕ) (d : Child) → i < length cs → d ≡ get_or cs i d →
    behind ks (rows_of (take (i + 1) cs))
    ≡ behind ks (rows_of (take i cs)) ++ behind (ks ++ d.key ∷ []) (entries d.graph)
behind_more ks cs i d w at = rows_more (λ (e : Path × ℕ). (ks ++ e.0, e.1)) (λ e. ((ks ++ d.key ∷ []) ++ e.0, e.1))
    cs i d w at (λ e i. (sym (append_assoc ks (d.key ∷ []) e.0) i, e.1))

-- With no keys before them the paths are as they are.
pub behind_none : (es : Sizes) → behind [] es ≡ es
behind_none [] = refl
behind_none (e ∷ es) = ap (λ (xs : Sizes). e ∷ xs) (behind_none es)

-- ---- sums over rows
-- A sum that counts only if a test passes.
pub sum_if : {X : Type 0} (b : Bool) (w : X → ℕ) (xs : List X) →
    sum_by (λ x. cond b (w x) 0) xs ≡ cond b (sum_by w xs) 0
sum_if true w xs = refl
sum_if false w [] = refl
sum_if false w (x ∷ xs) = omega (arith, sum_by-cons (λ _. 0) x xs, sum_if false w xs)

-- A sum of sums is the sum of both.
pub sum_split : {X : Type 0} (f a b : X → ℕ) (xs : List X) → All (λ x. f x ≡ a x + b x) xs →
    sum_by f xs ≡ sum_by a xs + sum_by b xs
sum_split f a b [] h = refl
sum_split f a b (x ∷ xs) h =
    let here = All-head (λ y. f y ≡ a y + b y) x xs h in
    let rest = sum_split f a b xs (All-tail (λ y. f y ≡ a y + b y) x xs h) in
    omega (arith, sum_by-cons f x xs, sum_by-cons a x xs, sum_by-cons b x xs, here, rest)

-- A sum over the rows of some children is the sum over each child's rows.
pub rows_by_child : (w : Path × ℕ → ℕ) (cs : List Child) →
    sum_by w (rows_of cs) ≡ sum_by (λ c. sum_by (λ e. w (c.key ∷ e.0, e.1)) (entries c.graph)) cs
rows_by_child w [] = refl
rows_by_child w (c ∷ cs) = omega (
  arith,
  rows-cons w c cs,
  rows_by_child w cs,
  sum_by-cons (λ (d : Child). sum_by (λ e. w (d.key ∷ e.0, e.1)) (entries d.graph)) c cs,
)

-- The bytes of the children up to a place, and of the child there, are those of the children up to the next one.
pub total_of_more : (cs : List Child) (i : ℕ) (d : Child) → i < length cs → d ≡ get_or cs i d →
    total_of (take (i + 1) cs) ≡ total_of (take i cs) + total d.graph
total_of_more cs i d h at = rw (sum_by_more (λ (c : Child). total c.graph) cs i d h, ← at) refl

module _ (w : Child → ℕ) (k : Key) where
  -- What w gives a child, if it has the key.
  abbrev keyed : Child → ℕ
  keyed c = cond (eq_by_cmp key_cmp k c.key) (w c) 0

  none_keyed : (cs : List Child) → Lacks k cs → sum_by keyed cs ≡ 0
  none_keyed [] h = refl
  none_keyed (c ∷ cs) h =
      let other : eq_by_cmp key_cmp k c.key ≡ false = h 0 c (omega arith) in
      let rest = none_keyed cs (λ i d v. h (suc i) d (omega arith)) in
      omega (arith, sum_by-cons keyed c cs, ap (λ b. cond b (w c) 0) other, rest)

  -- One child alone has a key.
  pub one_keyed : (cs : List Child) (i : ℕ) (d : Child) → InOrder cs → i < length cs → (get_or cs i d).key ≡ k →
      sum_by keyed cs ≡ w (get_or cs i d)
  unfolding IsStrictlySortedBy
  one_keyed [] i d o v is = absurd (omega arith)
  one_keyed (c ∷ cs) zero d o v is =
      let same : eq_by_cmp key_cmp k c.key ≡ true =
      subst (λ l. eq_by_cmp key_cmp k l ≡ true) (sym is) (ap is_eq (tied_itself nat_list_cmp_total k)) in
      let rest = none_keyed cs (lacks-above k cs (subst (λ l. AllAbove cs l) is o.0)) in
      omega (arith, sum_by-cons keyed c cs, ap (λ b. cond b (w c) 0) same, rest)
  one_keyed (c ∷ cs) (suc i) d o v is =
      let less = subst (λ l. key_cmp c.key l ≡ Less) is (rises (c ∷ cs) 0 (suc i) d o (omega arith) v) in
      let other : eq_by_cmp key_cmp k c.key ≡ false =
      (eq_by_cmp_equiv nat_list_cmp_total).symm k c.key ∙ ap is_eq less in
      let rest = one_keyed cs i d o.1 (omega arith) is in
      omega (arith, sum_by-cons keyed c cs, ap (λ b. cond b (w c) 0) other, rest)

-- ---- the entries of one path
-- What w gives a number that is found, and otherwise none.
abbrev pub at_found : (ℕ → ℕ) → Option ℕ → ℕ
at_found w None = 0
at_found w (Some n) = w n

-- Of rows in order, one path has what w gives the number that is found there.
pub found_sum : (w : ℕ → ℕ) (q : Path) (es : Sizes) → T (is_sorted path_cmp es) →
    sum_by (λ e. cond (is_same_path q e.0) (w e.1) 0) es ≡ at_found w (find path_cmp q es)
found_sum w q [] h = refl
found_sum w q (e ∷ es) h =
    let rest = found_sum w q es (second (below_all path_cmp e.0 es) _ h) in
    let none : at_found w (find path_cmp e.0 es) ≡ 0 =
    ap (at_found w) (find-below_all path_cmp e.0 es (first (below_all path_cmp e.0 es) (is_sorted path_cmp es) h)) in
    grind (arith, rest, none, same_path q e.0, sum_by-cons (λ (x : Path × ℕ). cond (is_same_path q x.0) (w x.1) 0) e es)

-- ---- what a node has of a child
-- If a node has for the path of a child what the child has, so it is with the graph of the node.
pub child_has : {X : Type 0} (F : Graph → Path → X) (n : ℕ) (cs : List Child) (g : Graph) (i : ℕ) (d : Child) →
    g ≡ node n cs → d ≡ get_or cs i d →
    ((p : Path) → F (node n cs) ((get_or cs i d).key ∷ p) ≡ F (get_or cs i d).graph p) → (p : Path) →
    F g (d.key ∷ p) ≡ F d.graph p
child_has F n cs g i d whole at same p = ap (λ (x : Graph). F x (d.key ∷ p)) whole
    ∙ subst (λ (x : Child). F (node n cs) (x.key ∷ p) ≡ F x.graph p) (sym at) (same p)

-- The bytes of a node are those of its root and of its children.
pub node_total : (g : Graph) (cs : List Child) → g ≡ node (size_at g []) cs → AreChildren cs →
    total g ≡ size_at g [] + total_of cs
node_total g cs whole h = ap total whole ∙ total-node (size_at g []) cs h.sorted
