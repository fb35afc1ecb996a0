-- How boxes are placed relative to one another, which frames have a box, and how often a path occurs.
use Rattle.std.proofs.Common.{◌≡◌, ℕ, zero, suc, ◌+◌, ◌*◌, ◌<◌, ◌≤◌, ◌&&◌, cond, List, [], ◌∷◌, ◌++◌, sum_by, refl, ap}
use Rattle.std.proofs.Common.{◌∙◌, arith, true, Some, sym, subst, Ordering, Less, Equal, Greater, is_eq, is_lt}
use Rattle.std.proofs.Common.{Option, None, get_or, is_some, inl, inr, ◌-◌, ◌^◌, nat_cmp}
use Rattle.allocative_picture.proofs.Common.{ordering_then, ordering_reverse, entries, Path, key_cmp, path_cmp, total}
use Rattle.allocative_picture.proofs.Common.{entries_sorted, tied_itself}
use Rattle.std.specs.Ordering.{eq_by_cmp}
use Rattle.allocative_picture.specs.Frames.{before_at}
use Rattle.allocative_picture.specs.Places.{before_in, place, place_key, IsDrawnFirst}
use Rattle.allocative_picture.specs.declared.options.Order.{Order}
use Rattle.allocative_picture.specs.declared.options.Order.TheVariants as order
use Rattle.std.specs.Cmp.{nat_cmp_is, nat_cmp_total}
use Rattle.allocative_graph.proofs.Basics.{key_itself, is_eq-Equal}
use Rattle.std.proofs.lemmas.Map.Lookups.{exact_bytes as key_same}
use Rattle.allocative_picture.proofs.Common.{sum_by-le-sum_by, nat_list_cmp_total}
use Rattle.allocative_picture.proofs.Common.{Key, begins, edge, get-entries, find, on_test, Graph, total_at}
use Rattle.allocative_graph.proofs.Graphs.{total_at-sum_of}
use Rattle.std.proofs.Math.Nat.{mul-div_cancel_left, div-zero}
use Rattle.allocative_picture.specs.Laws.{BoxesLaw, OnceLaw}
use Rattle.allocative_picture.proofs.Placing.{never_first}
use Rattle.allocative_picture.proofs.Walking.{at_found, found_sum, sum_split}
use Rattle.allocative_picture.proofs.Starting.{other_place}

-- The bytes n of the path q, if q comes before p.
abbrev lower : ℕ → Path → Path → ℕ
lower n q p = cond (is_lt (path_cmp q p)) n 0

-- The bytes n of q, once if q comes before p, and once if p is a beginning of q.
abbrev reach : ℕ → Path → Path → ℕ
reach n q p = lower n q p + cond (begins p q) n 0

-- `lower_by` and `reach_by` count n bytes of q as `lower` and `reach` do, if the first keys compare as o.
abbrev lower_by : Ordering → ℕ → Path → Path → ℕ
lower_by o n q p = cond (is_lt (ordering_then o (path_cmp q p))) n 0

-- The bytes n of q as `reach` counts them, if the first keys compare as o.
abbrev reach_by : Ordering → ℕ → Path → Path → ℕ
reach_by o n q p = lower_by o n q p + cond (is_eq (ordering_reverse o) && begins p q) n 0

-- `reach` goes by the order of the first keys.
reach-cons : (n : ℕ) (l k : Key) (q p : Path) → reach n (l ∷ q) (k ∷ p) ≡ reach_by (key_cmp l k) n q p
reach-cons n l k q p =
    ap (λ o. lower n (l ∷ q) (k ∷ p) + cond (is_eq o && begins p q) n 0) (nat_list_cmp_total.antisymm k l)

-- What holds at each order holds at any.
at_order : (P : Ordering → Type 0) (o : Ordering) → P Less → P Equal → P Greater → P o
at_order P Less less equal greater = less
at_order P Equal less equal greater = equal
at_order P Greater less equal greater = greater

-- A path is not both before another path and below it.
once : (n : ℕ) (q p : Path) → reach n q p ≤ n
once n [] [] = omega arith
once n (l ∷ q) [] = omega arith
once n [] (k ∷ p) = omega arith
once n (l ∷ q) (k ∷ p) =
    rw (reach-cons n l k q p)
    (at_order (λ o. reach_by o n q p ≤ n) (key_cmp l k) (omega arith) (once n q p) (omega arith))

-- What comes before a path also comes before each longer path that begins with it, and that path reaches no more.
longer : (n : ℕ) (q p r : Path) → (lower n q p ≤ lower n q (p ++ r)) × (reach n q (p ++ r) ≤ reach n q p)
longer n q [] r = (omega (arith, never_first n q), omega (arith, once n q r))
longer n [] (k ∷ p) r = (omega arith, omega arith)
longer n (l ∷ q) (k ∷ p) r = rw (reach-cons n l k q p, reach-cons n l k q (p ++ r))
    (at_order (λ o. (lower_by o n q p ≤ lower_by o n q (p ++ r)) × (reach_by o n q (p ++ r) ≤ reach_by o n q p))
    (key_cmp l k) (omega arith, omega arith) (longer n q p r) (omega arith, omega arith))

-- What the path of a key reaches comes before the path of each greater key.
beside : (n : ℕ) (q p : Path) (k l : Key) → key_cmp k l ≡ Less → reach n q (p ++ k ∷ []) ≤ lower n q (p ++ l ∷ [])
beside n [] [] k l h = omega arith
beside n (m ∷ q) [] k l h =
    rw (reach-cons n m k q []) (at_order (λ o. key_cmp m k ≡ o → reach_by o n q [] ≤ lower_by (key_cmp m l) n q [])
    (key_cmp m k) (λ e. rw (nat_list_cmp_total.trans m k l e h) (omega arith))
    (λ e. rw (nat_list_cmp_total.congr m k l e ∙ h) (omega (arith, never_first n q))) (λ e. omega arith) refl)
beside n [] (j ∷ p) k l h = omega arith
beside n (m ∷ q) (j ∷ p) k l h = rw (reach-cons n m j q (p ++ k ∷ []))
    (at_order (λ o. reach_by o n q (p ++ k ∷ []) ≤ lower_by o n q (p ++ l ∷ [])) (key_cmp m j) (omega arith)
    (beside n q p k l h) (omega arith))

-- ---- the keys by which paths are placed
-- A path of several keys is placed by those of its beginning, and then by those of the rest.
place-append : (o : Order) (f : Path → ℕ) (p r : Path) → place o f (p ++ r) ≡ place o f p ++ place o (λ q. f (p ++ q)) r
place-append o f [] r = refl
place-append o f (k ∷ p) r = ap (λ q. place_key o (f (k ∷ [])) k ∷ q) (place-append o (λ q. f (k ∷ q)) p r)

-- A path begins another if the keys by which it is placed begin those of the other.
begins-place : (o : Order) (f : Path → ℕ) (p q : Path) → begins (place o f p) (place o f q) ≡ begins p q
begins-place o f [] q = refl
begins-place o f (k ∷ p) [] = refl
begins-place o f (k ∷ p) (l ∷ q) =
    on_test (λ b. begins (place o f (k ∷ p)) (place o f (l ∷ q)) ≡ (b && begins p q)) (eq_by_cmp key_cmp k l)
    (λ same. subst (λ m. begins (place o f (k ∷ p)) (place o f (m ∷ q)) ≡ begins p q)
    (key_same k l (is_eq-Equal (key_cmp k l) same))
    (ap (λ b. b && begins (place o (λ r. f (k ∷ r)) p) (place o (λ r. f (k ∷ r)) q))
    (ap is_eq (key_itself (place_key o (f (k ∷ [])) k)))
    ∙ begins-place o (λ r. f (k ∷ r)) p q))
    (λ other. ap (λ b. b && begins (place o (λ r. f (k ∷ r)) p) (place o (λ r. f (l ∷ r)) q))
    (other_place o (f (k ∷ [])) (f (l ∷ [])) k l other))

-- The path that is drawn first is placed by the lesser key.
first_place : (o : Order) (m n : ℕ) (k l : Key) → IsDrawnFirst o m n k l →
    key_cmp (place_key o m k) (place_key o n l) ≡ Less
first_place order.Key m n k l h = h
first_place order.Size m n k l (fits, inl more) =
    ap (λ o. ordering_then o (key_cmp k l)) (sym (nat_cmp_is (2 ^ 64 - m) (2 ^ 64 - n) Less (omega arith)))
first_place order.Size m n k l (fits, inr (same, less)) =
    ap (λ x. ordering_then (nat_cmp (2 ^ 64 - m) (2 ^ 64 - x)) (key_cmp k l)) (sym same)
    ∙ ap (λ o. ordering_then o (key_cmp k l)) (tied_itself nat_cmp_total (2 ^ 64 - m)) ∙ less

-- ---- sums over entries
module _ (o : Order) (f : Path → ℕ) where
  -- The bytes of an entry that are drawn before a path.
  abbrev lowers : Path → Path × ℕ → ℕ
  lowers p e = lower e.1 (place o f e.0) (place o f p)

  -- The bytes of an entry that are drawn before a path, or are its own or below it.
  abbrev reaches : Path → Path × ℕ → ℕ
  reaches p e = reach e.1 (place o f e.0) (place o f p)

  -- The bytes before a path, and those of it and of all paths below it.
  reached : (p : Path) (rs : List (Path × ℕ)) →
      before_in o f rs p + sum_by (λ e. cond (begins p e.0) e.1 0) rs ≡ sum_by (reaches p) rs
  reached p rs = sym (sum_split (reaches p) (lowers p) (λ e. cond (begins p e.0) e.1 0) rs
      (λ i d w. let e = get_or rs i d in ap (λ b. lowers p e + cond b e.1 0) (begins-place o f p e.0)))

  -- What is drawn before a path is drawn before those below it, and what these reach the path reaches.
  longer-place : (p : Path) (k : Key) (e : Path × ℕ) →
      (lowers p e ≤ lowers (p ++ k ∷ []) e) × (reaches (p ++ k ∷ []) e ≤ reaches p e)
  longer-place p k e =
      rw (place-append o f p (k ∷ [])) (longer e.1 (place o f e.0) (place o f p) (place_key o (f (p ++ k ∷ [])) k ∷ []))

  -- What a path reaches is drawn before each path beside it that is drawn later.
  beside-place : (p : Path) (k l : Key) → IsDrawnFirst o (f (p ++ k ∷ [])) (f (p ++ l ∷ [])) k l → (e : Path × ℕ) →
      reaches (p ++ k ∷ []) e ≤ lowers (p ++ l ∷ []) e
  beside-place p k l h e = rw (place-append o f p (k ∷ []), place-append o f p (l ∷ []))
      (beside e.1 (place o f e.0) (place o f p) (place_key o (f (p ++ k ∷ [])) k) (place_key o (f (p ++ l ∷ [])) l)
      (first_place o (f (p ++ k ∷ [])) (f (p ++ l ∷ [])) k l h))

-- ---- boxes
-- More bytes have no lower edge, if there are bytes at all.
edge-le : (all a b : ℕ) → 0 < all → a ≤ b → edge all a ≤ edge all b
edge-le all a b some h = grind arith

-- More bytes have no lower edge.
edges-le : (all a b : ℕ) → a ≤ b → edge all a ≤ edge all b
edges-le zero a b h = omega (arith, div-zero (a * 1000000), div-zero (b * 1000000))
edges-le (suc n) a b h = edge-le (suc n) a b (omega arith) h

module _ (o : Order) (g : Graph) where
  -- A box does not begin before that of its parent.
  pub starts_inside : (p : Path) (k : Key) →
      edge (total g) (before_at o g p) ≤ edge (total g) (before_at o g (p ++ k ∷ []))
  starts_inside p k = edges-le (total g) _ _ (sum_by-le-sum_by (lowers o (total_at g) p)
      (lowers o (total_at g) (p ++ k ∷ [])) (entries g) (λ e. (longer-place o (total_at g) p k e).0))

  -- A box does not end behind that of its parent.
  pub ends_inside : (p : Path) (k : Key) →
      edge (total g) (before_at o g (p ++ k ∷ []) + total_at g (p ++ k ∷ []))
      ≤ edge (total g) (before_at o g p + total_at g p)
  ends_inside p k =
      let le = sum_by-le-sum_by (reaches o (total_at g) (p ++ k ∷ [])) (reaches o (total_at g) p) (entries g)
      (λ e. (longer-place o (total_at g) p k e).1) in
      edges-le (total g) _ _ (omega (
        arith,
        le,
        reached o (total_at g) p (entries g),
        reached o (total_at g) (p ++ k ∷ []) (entries g),
      ))

  -- A box ends at or before the beginning of those beside it that are drawn later.
  pub is_apart : (p : Path) (k l : Key) → IsDrawnFirst o (total_at g (p ++ k ∷ [])) (total_at g (p ++ l ∷ [])) k l →
      edge (total g) (before_at o g (p ++ k ∷ []) + total_at g (p ++ k ∷ []))
      ≤ edge (total g) (before_at o g (p ++ l ∷ []))
  is_apart p k l h = edges-le (total g) _ _ (rw (reached o (total_at g) (p ++ k ∷ []) (entries g))
      (sum_by-le-sum_by (reaches o (total_at g) (p ++ k ∷ [])) (lowers o (total_at g) (p ++ l ∷ [])) (entries g)
      (beside-place o (total_at g) p k l h)))

  -- No box ends past the right edge.
  pub is_within : (p : Path) → 0 < total g → edge (total g) (before_at o g p + total_at g p) ≤ 1000000
  is_within p some =
      let le = sum_by-le-sum_by (reaches o (total_at g) p) (λ e. e.1) (entries g)
      (λ e. once e.1 (place o (total_at g) e.0) (place o (total_at g) p)) in
      let right = edges-le (total g) _ (total g) (rw (← reached o (total_at g) p (entries g)) at le) in
      omega (arith, mul-div_cancel_left 1000000 some, right)

-- The boxes of some frames are the elements of those that are wide enough.
pub boxes_are : BoxesLaw
boxes_are least unit all [] = refl
boxes_are least unit all (r ∷ rs) = grind (arith, boxes_are least unit all rs)

-- A path of a graph occurs once among its entries.
pub stands_once : OnceLaw
stands_once g p h = found_sum (λ _. 1) p (entries g) (entries_sorted g)
    ∙ one (find path_cmp p (entries g)) (ap is_some (sym (get-entries g p)) ∙ h)
  where
    one : (o : Option ℕ) → is_some o ≡ true → at_found (λ _. 1) o ≡ 1
    one None h = absurd (cc)
    one (Some n) h = refl

-- The laws of boxes. That of a change is that of the totals of a sum.
pub ruleset laws = (is_apart, boxes_are, stands_once, total_at-sum_of)
