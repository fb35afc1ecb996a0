-- The children of a path in the order in which they are drawn, and how many bytes come before each.
use Rattle.std.proofs.Common.{◌≡◌, ℕ, zero, suc, ◌+◌, ◌-◌, ◌<◌, ◌≤◌, ◌^◌, ◌==◌, ◌⊎◌, inl, inr, true, false, cond, List, [], ◌∷◌, ◌++◌, length}
use Rattle.std.proofs.Common.{Bool, set, get_or, take, sum_by, refl, sym, ap, subst, ◌∙◌, arith, is_lt, is_eq, nat_cmp, IsPermutation, All}
use Rattle.std.proofs.Common.{Ordering, Less, Equal, Greater}
use Rattle.allocative_picture.proofs.Common.{Child, Key, InOrder, total, total_of, key_cmp, ordering_then, ordering_reverse, default}
use Rattle.allocative_picture.proofs.Common.{nat_list_cmp_total, tied_itself, sum_by-cons, sum_by-IsPermutation, sum_by_more_le}
use Rattle.allocative_graph.proofs.Children.{rises}
use Rattle.std.specs.Cmp.{IsTotalOrder, nat_cmp_is}
use Rattle.std.specs.List.{IsDistinct}
use Rattle.std.specs.List.Sorted.{IsSorted}
use Rattle.std.proofs.lemmas.Cmp.{nat_cmp_total, on_total, then_total, back_total}
use Rattle.std.proofs.lemmas.Bool.{cases_eq}
use Rattle.std.proofs.lemmas.List.{get_or-set_same, get_or-set_other, get_or_default, take_more}
use Rattle.std.proofs.lemmas.List.Elements.{All-nil, All-cons, All-append, All-weaker}
use Rattle.std.proofs.lemmas.Bool.Decides.{nat_tests}
use Rattle.std.proofs.lemmas.List.Sorted.{IsPermutation-refl, IsPermutation-sym, All-permutation, ranks_by, sorted_far}
use Rattle.std.proofs.lemmas.Map.Keys.{IsDistinct-from_apart, IsDistinct-IsPermutation, apart_from_distinct}
use Rattle.allocative_picture.specs.Places.{place_key, child_place, bytes_before, placed, numbered, place_cmp, AreInOrder, AreStarts}
use Rattle.allocative_picture.specs.declared.options.Order.{Order}
use Rattle.allocative_picture.specs.declared.options.Order.TheVariants as order
use Rattle.allocative_picture.specs.declared.places.Place.{Place}

-- What is read of some children and of some places beyond their end.
abbrev pub no_child : Child
no_child = record { key = []; graph = default }

abbrev pub no_place : Place
no_place = record { bytes = record { 0 = 0 }; index = 0 }

-- The bytes of a place.
abbrev pub bytes_in : Place → ℕ
bytes_in x = x.bytes.0

-- ---- the places
pub length-numbered : (i : ℕ) (cs : List Child) → length (numbered i cs) ≡ length cs
length-numbered i [] = refl
length-numbered i (c ∷ cs) = ap suc (length-numbered (i + 1) cs)

numbered-from : (i : ℕ) (cs : List Child) (j : ℕ) (d : Child) (x : Place) → j < length cs →
    get_or (numbered i cs) j x ≡ placed (get_or cs j d) (i + j)
numbered-from i [] j d x w = absurd (omega arith)
numbered-from i (c ∷ cs) zero d x w = let e : i ≡ i + 0 = omega arith in ap (placed c) e
numbered-from i (c ∷ cs) (suc j) d x w =
    let e : i + 1 + j ≡ i + suc j = omega arith in
    numbered-from (i + 1) cs j d x (omega arith) ∙ ap (placed (get_or cs j d)) e

-- The number of a child is its place.
pub numbered-at : (cs : List Child) (j : ℕ) (d : Child) (x : Place) → j < length cs →
    get_or (numbered 0 cs) j x ≡ placed (get_or cs j d) j
numbered-at cs j d x w =
    let e : 0 + j ≡ j = omega arith in numbered-from 0 cs j d x w ∙ ap (placed (get_or cs j d)) e

-- One child more has the next number.
pub numbered-push : (i : ℕ) (cs : List Child) (d : Child) →
    numbered i (cs ++ d ∷ []) ≡ numbered i cs ++ placed d (i + length cs) ∷ []
numbered-push i [] d = let e : i ≡ i + 0 = omega arith in λ t. placed d (e t) ∷ []
numbered-push i (c ∷ cs) d =
    let e : i + 1 + length cs ≡ i + length (c ∷ cs) = omega arith in
    ap (λ (xs : List Place). placed c i ∷ xs)
    (numbered-push (i + 1) cs d ∙ (λ t. numbered (i + 1) cs ++ placed d (e t) ∷ []))

-- Two lists have the same sum if they have the same at each place.
sum_same : {A B : Type 0} (u : A → ℕ) (v : B → ℕ) (xs : List A) (ys : List B) (a : A) (b : B) → length xs ≡ length ys →
    ((i : ℕ) → i < length ys → u (get_or xs i a) ≡ v (get_or ys i b)) → sum_by u xs ≡ sum_by v ys
sum_same u v [] [] a b many h = refl
sum_same u v [] (y ∷ ys) a b many h = absurd (omega arith)
sum_same u v (x ∷ xs) [] a b many h = absurd (omega arith)
sum_same u v (x ∷ xs) (y ∷ ys) a b many h = omega (
  arith,
  sum_by-cons u x xs,
  sum_by-cons v y ys,
  h 0 (omega arith),
  sum_same u v xs ys a b (omega arith) (λ i w. h (suc i) (omega arith)),
)

-- Two children have different numbers.
abbrev same_number : Place → Place → Bool
same_number x y = x.index == y.index

numbered-differ : (cs : List Child) (i j : ℕ) (x : Place) → i < j → j < length (numbered 0 cs) →
    nat_cmp (get_or (numbered 0 cs) i x).index (get_or (numbered 0 cs) j x).index ≡ Less
numbered-differ cs i j x low high =
    let w : j < length cs = omega (arith, length-numbered 0 cs, high) in
    (λ t. nat_cmp (numbered-at cs i no_child x (omega (arith, low, w)) t).index (numbered-at cs j no_child x w t).index)
    ∙ sym (nat_cmp_is i j Less low)

-- ---- in the order in which they are drawn
-- By key the children are in order.
pub by_key : (cs : List Child) → AreInOrder order.Key cs (numbered 0 cs)
by_key cs =
    record { same = IsPermutation-refl (numbered 0 cs); rising = λ i j x low high. numbered-differ cs i j x low high }

-- Each order is total.
places_total : (o : Order) → IsTotalOrder (place_cmp o)
places_total order.Key = on_total (λ (x : Place). x.index) nat_cmp_total
places_total order.Size =
    then_total (back_total (on_total bytes_in nat_cmp_total)) (on_total (λ (x : Place). x.index) nat_cmp_total)

-- If the second answer is not that both are equal, neither are the two together.
then_other : (r s : Ordering) → is_eq s ≡ false → is_eq (ordering_then r s) ≡ false
then_other Less s h = refl
then_other Equal s h = h
then_other Greater s h = refl

-- Different keys are placed by different keys.
pub other_place : (o : Order) (m n : ℕ) (k l : Key) → is_eq (key_cmp k l) ≡ false →
    is_eq (key_cmp (place_key o m k) (place_key o n l)) ≡ false
other_place order.Key m n k l h = h
other_place order.Size m n k l h = then_other (nat_cmp (2 ^ 64 - m) (2 ^ 64 - n)) (key_cmp k l) h

-- A lesser number differs.
less_differ : (m n : ℕ) → nat_cmp m n ≡ Less → (m == n) ≡ false
less_differ m n h = grind (arith, nat_tests)

number_turned : (m n : ℕ) → (m == n) ≡ (n == m)
number_turned m n = grind (arith, nat_tests)

-- What is not drawn before another child is drawn after it, if their numbers differ.
drawn_after : (m n i j : ℕ) → (i == j) ≡ false → is_lt (ordering_then (nat_cmp m n) (nat_cmp j i)) ≡ false →
    ordering_then (nat_cmp n m) (nat_cmp i j) ≡ Less
drawn_after m n i j other h = grind (arith, nat_tests)

-- By size the children are in order once they are sorted.
pub by_size : (cs : List Child) (ys : List Place) → IsPermutation (numbered 0 cs) ys →
    IsSorted (place_cmp order.Size) ys → AreInOrder order.Size cs ys
by_size cs ys same up = record {
  same = same;
  rising = λ i j x low high.
      let a = get_or ys i x in
      let b = get_or ys j x in
      drawn_after (bytes_in a) (bytes_in b) a.index b.index (apart_from_distinct same_number ys i j x differ low high)
      (sorted_far (λ p q. is_lt (place_cmp order.Size p q))
      (ranks_by (places_total order.Size) (λ (p : Place). p)) ys up i j x (omega (arith, low)) high);
}
  where
    differ : IsDistinct same_number ys
    differ = IsDistinct-IsPermutation same_number (λ a b. number_turned a.index b.index) (numbered 0 cs) ys same
        (IsDistinct-from_apart same_number (numbered 0 cs)
        (λ i j x low high. less_differ _ _ (numbered-differ cs i j x low high)))

-- ---- the bytes before a child
-- In a rising list, elements compare as their places.
rank : {A K : Type 0} {R : K → K → Ordering} (o : IsTotalOrder R) (key : A → K) (xs : List A) (d : A) →
    ((i j : ℕ) → i < j → j < length xs → R (key (get_or xs i d)) (key (get_or xs j d)) ≡ Less) → (i j : ℕ) →
    i < length xs → j < length xs → R (key (get_or xs i d)) (key (get_or xs j d)) ≡ nat_cmp i j
rank {R = R} o key xs d rise i j v w =
    let k = key (get_or xs i d) in
    let l = key (get_or xs j d) in
    let up : i < j → R k l ≡ Less = λ low. rise i j low w in
    let down : j < i → R k l ≡ Greater = λ low. o.antisymm k l ∙ ap ordering_reverse (rise j i low v) in
    let same : i ≡ j → R k l ≡ Equal = λ e. ap (λ n. R (key (get_or xs n d)) l) e ∙ tied_itself o l in
    grind (arith, nat_tests, up, down, same)

less_suc : (k j : ℕ) → is_lt (nat_cmp (suc k) (suc j)) ≡ is_lt (nat_cmp k j)
less_suc k j = grind (arith, nat_tests)

-- If a test passes up to a place, what passes is what stands before that place.
sum_before : (test : Place → Bool) (ys : List Place) (j : ℕ) (x : Place) →
    ((k : ℕ) → k < length ys → test (get_or ys k x) ≡ is_lt (nat_cmp k j)) →
    sum_by (λ y. cond (test y) (bytes_in y) 0) ys ≡ sum_by bytes_in (take j ys)
sum_before test [] zero x h = refl
sum_before test [] (suc j) x h = refl
sum_before test (y ∷ ys) zero x h = omega (
  arith,
  sum_by-cons (λ z. cond (test z) (bytes_in z) 0) y ys,
  ap (λ b. cond b (bytes_in y) 0) (h 0 (omega arith)),
  sum_before test ys zero x (λ k w. h (suc k) (omega arith) ∙ first k),
)
  where
    first : (k : ℕ) → is_lt (nat_cmp (suc k) 0) ≡ is_lt (nat_cmp k 0)
    first k = grind (arith, nat_tests)
sum_before test (y ∷ ys) (suc j) x h = omega (
  arith,
  sum_by-cons (λ z. cond (test z) (bytes_in z) 0) y ys,
  ap (λ b. cond b (bytes_in y) 0) (h 0 (omega arith) ∙ some j),
  sum_before test ys j x (λ k w. h (suc k) (omega arith) ∙ less_suc k j),
  sum_by-cons bytes_in y (take j ys),
)
  where
    some : (j : ℕ) → is_lt (nat_cmp 0 (suc j)) ≡ true
    some j = grind (arith, nat_tests)

-- More bytes leave less room.
room : (m n : ℕ) → m < 2 ^ 64 → n < 2 ^ 64 → nat_cmp (2 ^ 64 - m) (2 ^ 64 - n) ≡ nat_cmp n m
room m n v w = grind (arith, nat_tests)

-- Children compare as the keys by which they are placed.
placed_as : (o : Order) (m n i j : ℕ) (k l : Key) → m < 2 ^ 64 → n < 2 ^ 64 → key_cmp k l ≡ nat_cmp i j →
    place_cmp o (record { bytes = record { 0 = m }; index = i }) (record { bytes = record { 0 = n }; index = j })
    ≡ key_cmp (place_key o m k) (place_key o n l)
placed_as order.Key m n i j k l v w h = sym h
placed_as order.Size m n i j k l v w h = sym ((λ t. ordering_then (room m n v w t) (h t)))

-- The bytes of a child are at most those of all.
one_total : (cs : List Child) (i : ℕ) (d : Child) → i < length cs → total (get_or cs i d).graph ≤ total_of cs
one_total cs i d w = omega (arith, sum_by_more_le (λ (c : Child). total c.graph) cs i d w)

-- A place is that of a child.
abbrev pub IsOfChild : List Child → Place → Type 0
IsOfChild cs y = (y.index < length cs) × (y ≡ placed (get_or cs y.index no_child) y.index)

-- The places are those of children.
pub of_children : (cs : List Child) (ys : List Place) → IsPermutation (numbered 0 cs) ys → All (IsOfChild cs) ys
of_children cs ys same = All-permutation (IsOfChild cs) (numbered 0 cs) ys same
    (λ i x w. let v : i < length cs = omega (arith, length-numbered 0 cs, w) in
    subst (IsOfChild cs) (sym (numbered-at cs i no_child x v)) (v, refl))

-- The bytes up to a child, and its own, are within those of all.
pub sum_within : (cs : List Child) (ys : List Place) (i : ℕ) (x : Place) → IsPermutation (numbered 0 cs) ys →
    i < length ys → sum_by bytes_in (take i ys) + bytes_in (get_or ys i x) ≤ total_of cs
sum_within cs ys i x same w =
    omega (
      arith,
      sum_by_more_le bytes_in ys i x w,
      sum_by-IsPermutation bytes_in (numbered 0 cs) ys same,
      sum_same bytes_in (λ (c : Child). total c.graph) (numbered 0 cs) cs x no_child (length-numbered 0 cs)
          (λ j v. ap bytes_in (numbered-at cs j no_child x v)),
    )

module _ (o : Order) (b : ℕ) (cs : List Child) (sorted : InOrder cs) (fits : total_of cs < 2 ^ 64) (ys : List Place)
    (h : AreInOrder o cs ys) where
  -- The bytes of a place that is drawn before y.
  abbrev lower : Place → Place → ℕ
  lower y x = cond (is_lt (place_cmp o x y)) (bytes_in x) 0

  -- In the order in which they are drawn, the bytes before a child are those of the places before its own.
  starts_at : (j : ℕ) (x : Place) → j < length ys →
      sum_by bytes_in (take j ys) ≡ bytes_before o cs (get_or cs (get_or ys j x).index no_child)
  starts_at j x w =
      let y = get_or ys j x in
      let n = y.index in
      let is = of_children cs ys h.same j x w in
      let R = place_cmp o in
      let c = get_or cs n no_child in
      sym (sum_before (λ z. is_lt (R z y)) ys j x (λ k v. ap is_lt (rank (places_total o) (λ (z : Place). z) ys x
      (λ a b low high. h.rising a b x low high) k j v w)))
      ∙ sum_by-IsPermutation (lower y) (numbered 0 cs) ys h.same
      ∙ sum_same (lower y)
      (λ (d : Child). cond (is_lt (key_cmp (child_place o d) (child_place o c))) (total d.graph) 0)
      (numbered 0 cs) cs x no_child (length-numbered 0 cs)
      (λ m v. (λ t. lower (is.1 t) (numbered-at cs m no_child x v t))
      ∙ ap (λ r. cond (is_lt r) (total (get_or cs m no_child).graph) 0)
      (placed_as o (total (get_or cs m no_child).graph) (total c.graph) m n (get_or cs m no_child).key c.key
      (omega (arith, one_total cs m no_child v, fits)) (omega (arith, one_total cs n no_child is.0, fits))
      (rank nat_list_cmp_total (λ (d : Child). d.key) cs no_child
      (λ a b low high. rises cs a b no_child sorted low high) m n v is.0)))

  -- The list has the start of a child.
  abbrev pub HasStart : List ℕ → Place → Type 0
  HasStart starts y = get_or starts y.index 0 ≡ b + bytes_before o cs (get_or cs y.index no_child)

  module _ (i : ℕ) (x : Place) (w : i < length ys) (starts : List ℕ) (next : ℕ) (many : length starts ≡ length cs)
      (is : next ≡ b + sum_by bytes_in (take i ys)) where
    -- The next child has its start.
    here : HasStart (set starts (get_or ys i x).index next) (get_or ys i x)
    here = get_or-set_same starts (get_or ys i x).index next 0 (omega (arith, many, (of_children cs ys h.same i x w).0))
        ∙ is ∙ ap (λ n. b + n) (starts_at i x w)

    -- A child that has its start keeps it.
    kept : (y : Place) → HasStart starts y → HasStart (set starts (get_or ys i x).index next) y
    kept y has = by (cases_eq (get_or ys i x).index y.index)
      where
        by : ((get_or ys i x).index ≡ y.index) ⊎ ((get_or ys i x).index ≡ y.index → ⊥) →
            HasStart (set starts (get_or ys i x).index next) y
        by (inl same) = subst (λ n. get_or (set starts (get_or ys i x).index next) n 0
            ≡ b + bytes_before o cs (get_or cs n no_child)) same here
        by (inr other) = get_or-set_other starts (get_or ys i x).index y.index next 0 (λ e. other (sym e)) ∙ has

    -- One child more has its start.
    pub starts_more : All (HasStart starts) (take i ys) →
        All (HasStart (set starts (get_or ys i x).index next)) (take (i + 1) ys)
    starts_more all =
        let Q = HasStart (set starts (get_or ys i x).index next) in
        subst (All Q) (sym (take_more ys i x w)) (All-append Q (take i ys) (get_or ys i x ∷ [])
        (All-weaker (HasStart starts) Q kept (take i ys) all) (All-cons Q (get_or ys i x) [] here (All-nil Q)))

  -- Once all have, they are the starts.
  pub starts_all : (starts : List ℕ) → length starts ≡ length cs → All (HasStart starts) ys → AreStarts o b cs starts
  starts_all starts many all =
      let back = All-permutation (HasStart starts) ys (numbered 0 cs) (IsPermutation-sym (numbered 0 cs) ys h.same)
      all in
      record {
        many = many;
        each = λ i d w.
            subst (HasStart starts) (numbered-at cs i no_child no_place w)
            (back i no_place (omega (arith, w, length-numbered 0 cs)))
            ∙ ap (λ (c : Child). b + bytes_before o cs c) (get_or_default cs i no_child d w);
      }

-- The start of a child behind the bytes b and the n bytes of the root.
pub start_of : (o : Order) (cs : List Child) (i : ℕ) (c : Child) (b m n start : ℕ) {starts : List ℕ} →
    AreStarts o (b + m) cs starts → i < length cs → c ≡ get_or cs i c → m ≡ n → start ≡ get_or starts i start →
    start ≡ b + n + bytes_before o cs c
start_of o cs i c b m n start {starts} h w at own is =
    let c_is = ap (bytes_before o cs) at in
    omega (arith, is, get_or_default starts i start 0 (omega (arith, h.many, w)), h.each i c w, own, c_is)
