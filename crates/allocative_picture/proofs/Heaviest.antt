-- The heaviest paths: what keeping one more leaves, and that all paths can be put into the order of a table.
use Rattle.std.proofs.Common.{◌≡◌, ℕ, ◌+◌, ◌-◌, ◌<◌, ◌≤◌, zero, suc, true, false, Bor, List, [], ◌∷◌, ◌++◌, map, length, get_or, take}
use Rattle.std.proofs.Common.{AllPairs, IsPermutation, All, refl, sym, ap, subst, ◌∙◌, arith, is_lt, nat_cmp, Greater}
use Rattle.std.proofs.Common.{append_assoc, append-nil, Option, Some, None, IsSome, IfSome, Bool, nat_lt, filter}
use Rattle.allocative_picture.proofs.Common.{Path, on_test, path_cmp, ordering_then, texts}
use Rattle.allocative_picture.proofs.Common.{filter-append, length-map, get_or-map}
use Rattle.allocative_graph.proofs.Basics.{path_total}
use Rattle.std.specs.Cmp.{IsTotalOrder, IsStrictWeakOrder}
use Rattle.std.specs.Cmp.Lexicographic.{slice_cmp}
use Rattle.std.specs.List.Sorted.{IsSortedBy}
use Rattle.std.specs.BinaryHeap.{heap_items, IsHeap, IsUpperBound, PopsGreatest}
use Rattle.std.specs.declared.collections.BinaryHeap.{BinaryHeap}
use Rattle.std.specs.declared.alloc.Global.{Global}
use Rattle.std.proofs.lemmas.Cmp.{nat_cmp_total, on_total, then_total, back_total, tied_itself}
use Rattle.std.proofs.Math.Seq.{take-append-add}
use Rattle.std.proofs.lemmas.List.Sorted.{IsPermutation-refl, IsPermutation-sym, IsPermutation-cons, IsPermutation-trans}
use Rattle.std.proofs.lemmas.List.Sorted.{IsPermutation-append, IsPermutation-append_left, IsPermutation-middle}
use Rattle.std.proofs.lemmas.List.Sorted.{IsPermutation-push_more, IsPermutation-map, length_permutation, ranks_by, sorted_far}
use Rattle.std.proofs.lemmas.List.Sorted.{All-permutation}
use Rattle.std.proofs.lemmas.List.{get_or_default}
use Rattle.std.proofs.lemmas.List.Elements.{All-nil, All-cons, All-head, All-tail, All-weaker, All-append}
use Rattle.std.proofs.lemmas.List.Elements.{All-from_recursion, All-map, All-take}
use Rattle.std.proofs.lemmas.List.Kept.{AllPairs-cons}
use Rattle.std.proofs.lemmas.Bool.Decides.{nat_tests}
use Rattle.allocative_picture.specs.declared.table.Heavy.{Heavy}
use Rattle.allocative_picture.specs.Table.{weight_cmp, weight_of, weights_of, heavy_cmp, IsNotAfter, AreHeaviest, IsKept}
use Rattle.allocative_picture.specs.Table.{Keeps, IsPushed, IsTop}

-- A path with its bytes.
abbrev pub Weighed : Type 0
Weighed = Path × ℕ

-- ---- the order of a table
-- The order of a table is total.
weights_total : IsTotalOrder weight_cmp
weights_total =
    then_total (back_total (on_total (λ (e : Weighed). e.1) nat_cmp_total)) (on_total (λ (e : Weighed). e.0) path_total)

weights : IsStrictWeakOrder (λ (e f : Weighed). is_lt (weight_cmp e f))
weights = ranks_by weights_total (λ (e : Weighed). e)

-- If neither of two paths is after the next one, the first is not after the third.
not_after : (e f g : Weighed) → IsNotAfter e f → IsNotAfter f g → IsNotAfter e g
not_after e f g h k = weights.chain g f e k h

greater : (x y : ℕ) → y < x → nat_cmp x y ≡ Greater
greater x y h = grind (arith, nat_tests)

-- A path with bytes is not after one without.
not_after_empty : (e f : Weighed) → 0 < e.1 → f.1 ≡ 0 → IsNotAfter e f
not_after_empty e f some none =
    ap (λ o. is_lt (ordering_then o (path_cmp f.0 e.0))) (greater e.1 f.1 (omega arith))

-- Two paths compare by their texts.
pub slice_cmp-texts : (ps qs : List (Bor (List ℕ))) →
    slice_cmp (λ k l. slice_cmp nat_cmp k.now l.now) ps qs ≡ path_cmp (texts ps) (texts qs)
slice_cmp-texts [] [] = refl
slice_cmp-texts [] (q ∷ qs) = refl
slice_cmp-texts (p ∷ ps) [] = refl
slice_cmp-texts (p ∷ ps) (q ∷ qs) = ap (ordering_then (slice_cmp nat_cmp p.now q.now)) (slice_cmp-texts ps qs)

-- The order of the heap is that of the table.
pub heavy_cmp-weights : (x y : Heavy) → heavy_cmp x y ≡ weight_cmp (weight_of x) (weight_of y)
heavy_cmp-weights x y = ap (ordering_then (nat_cmp y.bytes.0 x.bytes.0)) (slice_cmp-texts x.path.items y.path.items)

-- ---- one path more
abbrev HasBytes : Weighed → Type 0
HasBytes e = 0 < e.1

abbrev IsEmpty : Weighed → Type 0
IsEmpty e = e.1 ≡ 0

-- None of some paths is after f.
abbrev NoneAfter : List Weighed → Weighed → Type 0
NoneAfter kept f = All (λ e. IsNotAfter e f) kept

-- A path that is not kept is one of the rest.
kept_dropped : (n : ℕ) (es kept : List Weighed) (f : Weighed) → AreHeaviest n es kept → NoneAfter kept f →
    (length kept < n → f.1 ≡ 0) → AreHeaviest n (es ++ f ∷ []) kept
kept_dropped n es kept f h after empty = record {
  rest = f ∷ h.rest;
  same = IsPermutation-push_more es (kept ++ h.rest) _ f h.same
      (IsPermutation-sym _ _ (IsPermutation-middle kept f h.rest));
  within = h.within;
  heavy = h.heavy;
  after = All-cons (NoneAfter kept) f h.rest after h.after;
  empty = λ few. All-cons IsEmpty f h.rest (empty few) (h.empty few);
}

-- A path with bytes is kept if there is room.
kept_pushed : (n : ℕ) (es kept kept' : List Weighed) (f : Weighed) → 0 < f.1 → length kept < n →
    IsPermutation (f ∷ kept) kept' → AreHeaviest n es kept → AreHeaviest n (es ++ f ∷ []) kept'
kept_pushed n es kept kept' f some room same h = record {
  rest = h.rest;
  same = IsPermutation-push_more es (kept ++ h.rest) _ f h.same
      (IsPermutation-append_left h.rest (f ∷ kept) kept' same);
  within = omega (arith, length_permutation (f ∷ kept) kept' same, room);
  heavy = All-permutation HasBytes (f ∷ kept) kept' same (All-cons HasBytes f kept some h.heavy);
  after = λ k d w. let P : Weighed → Type 0 = λ e. IsNotAfter e (get_or h.rest k d) in
      All-permutation P (f ∷ kept) kept' same
      (All-cons P f kept (not_after_empty f (get_or h.rest k d) some (h.empty room k d w)) (h.after k d w));
  empty = λ few. h.empty room;
}

-- If there is no room, a path that comes before the last of those kept replaces it.
kept_replaced : (n : ℕ) (es kept less kept' : List Weighed) (m f : Weighed) → n ≤ length kept → 0 < f.1 →
    IsPermutation kept (m ∷ less) → NoneAfter less m → is_lt (weight_cmp f m) ≡ true →
    IsPermutation (f ∷ less) kept' → AreHeaviest n es kept → AreHeaviest n (es ++ f ∷ []) kept'
kept_replaced n es kept less kept' m f full some split last before same h =
    let first : IsNotAfter f m = weights.one_way f m before in
    let count : length kept' ≡ length kept =
    omega (arith, length_permutation (f ∷ less) kept' same, length_permutation kept (m ∷ less) split) in
    let split_all : (P : Weighed → Type 0) → All P kept → All P (m ∷ less) =
    λ P a. All-permutation P kept (m ∷ less) split a in
    let made : (P : Weighed → Type 0) → P f → All P less → All P kept' =
    λ P p a. All-permutation P (f ∷ less) kept' same (All-cons P f less p a) in
    record {
      rest = m ∷ h.rest;
      same = IsPermutation-push_more es (kept ++ h.rest) _ f h.same
          (IsPermutation-trans _ _ _ (IsPermutation-cons f
          (kept ++ h.rest) ((m ∷ less) ++ h.rest) (IsPermutation-append_left h.rest kept (m ∷ less) split))
          (IsPermutation-trans _ _ _ (IsPermutation-middle (f ∷ []) m (less ++ h.rest))
          (IsPermutation-trans _ _ _ (IsPermutation-sym _ _ (IsPermutation-middle (f ∷ less) m h.rest))
          (IsPermutation-append_left (m ∷ h.rest) (f ∷ less) kept' same))));
      within = omega (arith, count, h.within);
      heavy = made HasBytes some (All-tail HasBytes m less (split_all HasBytes h.heavy));
      after = All-cons (NoneAfter kept') m h.rest (made (λ (e : Weighed). IsNotAfter e m) first last)
          (λ k d w. let g = get_or h.rest k d in let P : Weighed → Type 0 = λ e. IsNotAfter e g in
          let all = split_all P (h.after k d w) in
          made P (not_after f m g first (All-head P m less all)) (All-tail P m less all));
      empty = λ few. absurd (omega (arith, few, full, count));
    }

-- ---- one path more in a heap
-- A path without bytes is not kept.
pub keeps_empty : (n : ℕ) (p : Path) (b : ℕ) (heap : BinaryHeap Heavy Global) → b ≡ 0 → Keeps n ((p, b) ∷ []) heap heap
keeps_empty n p b heap none es k = record {
  ordered = k.ordered;
  heaviest = kept_dropped n es (weights_of heap) (p, b) k.heaviest
      (λ i d w. not_after_empty (get_or (weights_of heap) i d) (p, b) (k.heaviest.heavy i d w) none) (λ few. none);
}

-- If there is no room, a path that comes after all is not kept.
pub keeps_full : (n : ℕ) (f : Weighed) (heap : BinaryHeap Heavy Global) → n ≤ length (heap_items heap) →
    (IsHeap heavy_cmp (heap_items heap) → NoneAfter (weights_of heap) f) → Keeps n (f ∷ []) heap heap
keeps_full n f heap full after es k = record {
  ordered = k.ordered;
  heaviest = kept_dropped n es (weights_of heap) f k.heaviest (after k.ordered)
      (λ few. absurd (omega (arith, few, full, length-map (heap_items heap) weight_of)));
}

-- If the last path of a heap does not come after f, none does.
pub none_after : (heap : BinaryHeap Heavy Global) (last : Heavy) (f : Weighed) →
    IsUpperBound heavy_cmp last (heap_items heap) → IsNotAfter (weight_of last) f → NoneAfter (weights_of heap) f
none_after heap last f bound later =
    let P : Heavy → Type 0 = λ x. is_lt (heavy_cmp last x) ≡ false in
    All-map (λ (e : Weighed). IsNotAfter e f) weight_of (heap_items heap)
    (All-weaker P (λ (x : Heavy). IsNotAfter (weight_of x) f)
    (λ x u. not_after (weight_of x) (weight_of last) f (ap is_lt (sym (heavy_cmp-weights last x)) ∙ u) later)
    (heap_items heap) (All-from_recursion P (heap_items heap) bound))

-- If there is no room, a path that comes before the last replaces it.
pub keeps_replaced : (n : ℕ) (f : Weighed) (last : Heavy) (r : Option Heavy) (old less new : BinaryHeap Heavy Global) →
    n ≤ length (heap_items old) → 0 < length (heap_items old) → 0 < f.1 → IsSome r →
    IfSome r (λ m. m ≡ get_or (heap_items old) 0 m) →
    IfSome r (λ m. IsPermutation (heap_items old) (m ∷ heap_items less)) →
    IfSome r (λ m. PopsGreatest heavy_cmp (heap_items old) m (heap_items less)) →
    IfSome r (λ m. IsHeap heavy_cmp (heap_items old) → IsUpperBound heavy_cmp m (heap_items less)) →
    last ≡ get_or (heap_items old) 0 last → is_lt (weight_cmp f (weight_of last)) ≡ true → IsPushed f less new →
    Keeps n (f ∷ []) old new
keeps_replaced n f last None old less new full there some is top split order bound at before pushed es k = cc
keeps_replaced n f last (Some m) old less new full there some is top split order bound at before pushed es k =
    let same : last ≡ m = at ∙ get_or_default (heap_items old) 0 last m there ∙ sym top in record {
      ordered = pushed.order (order k.ordered).0;
      heaviest = kept_replaced n es (weights_of old) (weights_of less) (weights_of new) (weight_of m) f
          (omega (arith, full, length-map (heap_items old) weight_of)) some
          (IsPermutation-map weight_of (heap_items old) (m ∷ heap_items less) split)
          (none_after less m (weight_of m) (bound k.ordered) (ap is_lt (tied_itself weights_total (weight_of m))))
          (ap (λ (x : Heavy). is_lt (weight_cmp f (weight_of x))) (sym same) ∙ before) pushed.items k.heaviest;
    }

-- Of no paths an empty heap has the heaviest.
pub none_kept : (n : ℕ) (heap : BinaryHeap Heavy Global) → heap_items heap ≡ [] → AreHeaviest n [] (weights_of heap)
none_kept n heap none = subst (λ hs. AreHeaviest n [] (map weight_of hs)) (sym none) (record {
  rest = [];
  same = IsPermutation-refl [];
  within = omega arith;
  heavy = All-nil HasBytes;
  after = All-nil (NoneAfter []);
  empty = λ few. All-nil IsEmpty;
})

-- With room, a path with bytes is kept.
pub keeps_pushed : (n : ℕ) (f : Weighed) (old new : BinaryHeap Heavy Global) → 0 < f.1 → length (heap_items old) < n →
    IsPushed f old new → Keeps n (f ∷ []) old new
keeps_pushed n f old new some room pushed es k = record {
  ordered = pushed.order k.ordered;
  heaviest = kept_pushed n es (weights_of old) (weights_of new) f some
      (omega (arith, length-map (heap_items old) weight_of, room)) pushed.items k.heaviest;
}

-- Two steps that keep the heaviest are one.
pub keeps_then : (n : ℕ) (a b : List Weighed) (x y z : BinaryHeap Heavy Global) → Keeps n a x y → Keeps n b y z →
    Keeps n (a ++ b) x z
keeps_then n a b x y z k l es h =
    subst (λ (fs : List Weighed). IsKept n fs z) (append_assoc es a b) (l (es ++ a) (k es h))

-- ---- all paths in the order of a table
pairs_head : (e : Weighed) (es : List Weighed) → AllPairs IsNotAfter (e ∷ es) → All (IsNotAfter e) es
pairs_head e es h = λ k d w. h zero (suc k) d (omega arith) (omega arith)

pairs_tail : (e : Weighed) (es : List Weighed) → AllPairs IsNotAfter (e ∷ es) → AllPairs IsNotAfter es
pairs_tail e es h = λ i j d before within. h (suc i) (suc j) d (omega arith) (omega arith)

-- Some paths in the order of a table.
abbrev Ordered : List Weighed → Type 0
Ordered es = (rows : List Weighed) × IsPermutation es rows × AllPairs IsNotAfter rows

-- The path e at its place among others.
put_in : (e : Weighed) (fs : List Weighed) → AllPairs IsNotAfter fs → Ordered (e ∷ fs)
put_in e [] h = (e ∷ [], IsPermutation-refl _, AllPairs-cons IsNotAfter e [] (All-nil (IsNotAfter e)) h)
put_in e (f ∷ fs) h =
    on_test (λ b. Ordered (e ∷ f ∷ fs)) (is_lt (weight_cmp f e))
    (λ before. let made = put_in e fs (pairs_tail f fs h) in (
      f ∷ made.0,
      IsPermutation-trans _ _ _ (IsPermutation-middle (e ∷ []) f fs) (IsPermutation-cons f (e ∷ fs) made.0 made.1),
      AllPairs-cons IsNotAfter f made.0 (All-permutation (IsNotAfter f) (e ∷ fs) made.0 made.1
          (All-cons (IsNotAfter f) e fs (weights.one_way f e before) (pairs_head f fs h))) made.2,
    ))
    (λ no. (
      e ∷ f ∷ fs,
      IsPermutation-refl _,
      AllPairs-cons IsNotAfter e (f ∷ fs) (All-cons (IsNotAfter e) f fs no
          (All-weaker (IsNotAfter f) (IsNotAfter e) (λ g k. not_after e f g no k) fs (pairs_head f fs h))) h,
    ))

in_order : (es : List Weighed) → Ordered es
in_order [] = ([], IsPermutation-refl _, λ i j d before within. absurd (omega arith))
in_order (e ∷ es) =
    let rest = in_order es in
    let made = put_in e rest.0 rest.2 in
    (made.0, IsPermutation-trans _ _ _ (IsPermutation-cons e es rest.0 rest.1) made.1, made.2)

-- Two lists in order are one if no path of the first is after one of the second.
pairs-append : (es fs : List Weighed) → AllPairs IsNotAfter es → AllPairs IsNotAfter fs →
    All (NoneAfter es) fs → AllPairs IsNotAfter (es ++ fs)
pairs-append [] fs a b c = b
pairs-append (e ∷ es) fs a b c = AllPairs-cons IsNotAfter e (es ++ fs)
    (All-append (IsNotAfter e) es fs (pairs_head e es a)
    (λ k d w. All-head (λ (x : Weighed). IsNotAfter x (get_or fs k d)) e es (c k d w)))
    (pairs-append es fs (pairs_tail e es a) b
    (λ k d w. All-tail (λ (x : Weighed). IsNotAfter x (get_or fs k d)) e es (c k d w)))

-- Whether a path has bytes.
abbrev has_bytes : Weighed → Bool
has_bytes e = nat_lt 0 e.1

-- Paths that all have bytes stay.
all_stay : (es : List Weighed) → All (λ e. 0 < e.1) es → filter has_bytes es ≡ es
all_stay [] h = refl
all_stay (e ∷ es) h =
    let some : 0 < e.1 = All-head HasBytes e es h in
    let rest = all_stay es (All-tail HasBytes e es h) in
    grind (arith, nat_tests, some, rest)

-- Of paths without bytes none stays.
none_stays : (es : List Weighed) → All (λ e. e.1 ≡ 0) es → filter has_bytes es ≡ []
none_stays [] h = refl
none_stays (e ∷ es) h =
    let none : e.1 ≡ 0 = All-head IsEmpty e es h in
    let rest = none_stays es (All-tail IsEmpty e es h) in
    grind (arith, none, rest)

-- If paths have no bytes, or none of them is taken, none that is taken has.
take_empty : (n : ℕ) (es : List Weighed) → (0 < n → All (λ e. e.1 ≡ 0) es) → All (λ e. e.1 ≡ 0) (take n es)
take_empty zero es h = λ k d w. absurd (omega arith)
take_empty (suc n) es h = All-take IsEmpty (suc n) es (h (omega arith))

-- The heaviest paths in order are the first ones of all paths in order.
top_of_heaviest : (n : ℕ) (es kept sorted : List Weighed) → AreHeaviest n es kept → IsPermutation kept sorted →
    AllPairs IsNotAfter sorted → IsTop n es sorted
top_of_heaviest n es kept sorted h same falls =
    let others = in_order h.rest in
    let rest = others.0 in
    let count : length sorted ≡ length kept = length_permutation kept sorted same in
    let more = n - length sorted in
    let sum : length sorted + more ≡ n = omega (arith, count, h.within) in
    let empty : All IsEmpty (take more rest) = take_empty more rest
    (λ some. All-permutation IsEmpty h.rest rest others.1 (h.empty (omega (arith, some, count)))) in
    let heavy = All-permutation HasBytes kept sorted same h.heavy in
    record {
      rows = sorted ++ rest;
      same = IsPermutation-trans _ _ _ h.same (IsPermutation-append kept sorted h.rest rest same others.1);
      falling = pairs-append sorted rest falls others.2 (All-permutation (NoneAfter sorted) h.rest rest others.1
          (λ k d w. All-permutation (λ (e : Weighed). IsNotAfter e (get_or h.rest k d)) kept sorted same
          (h.after k d w)));
      is = sym (ap (λ m. filter has_bytes (take m (sorted ++ rest))) (sym sum)
          ∙ ap (filter has_bytes) (take-append-add sorted rest more)
          ∙ filter-append has_bytes sorted (take more rest)
          ∙ (λ i. all_stay sorted heavy i ++ none_stays (take more rest) empty i)
          ∙ append-nil sorted);
    }

-- Heavy paths that are sorted are in the order of a table.
falls : (hs : List Heavy) → IsSortedBy (λ x y. is_lt (heavy_cmp x y)) hs → AllPairs IsNotAfter (map weight_of hs)
falls [] s i j d before within = absurd (omega arith)
falls (r ∷ rs) s i j d before within =
    let short : j < length (r ∷ rs) = omega (arith, within, length-map (r ∷ rs) weight_of) in
    rw (get_or-map weight_of (r ∷ rs) i r d (omega arith), get_or-map weight_of (r ∷ rs) j r d short)
    (sorted_far (λ x y. is_lt (weight_cmp (weight_of x) (weight_of y))) (ranks_by weights_total weight_of) (r ∷ rs)
    (λ k e low high. ap is_lt (sym (heavy_cmp-weights (get_or (r ∷ rs) (k + 1) e) (get_or (r ∷ rs) k e)))
    ∙ s k e low high) i j r (omega arith) short)

-- A heap of the heaviest paths, sorted, is in the order of a table.
pub top_of_heap : (n : ℕ) (es : List Weighed) (heap : BinaryHeap Heavy Global) (sorted : List Heavy) →
    IsKept n es heap → IsPermutation (heap_items heap) sorted → IsSortedBy (λ x y. is_lt (heavy_cmp x y)) sorted →
    IsTop n es (map weight_of sorted)
top_of_heap n es heap sorted h same s =
    top_of_heaviest n es (weights_of heap) _ h.heaviest (IsPermutation-map weight_of _ sorted same) (falls sorted s)
