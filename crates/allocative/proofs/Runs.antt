-- How a loop over an iterator shows one more item, and what a whole run of it shows.
use Rattle.std.proofs.Common.{Bool, false, true, ℕ, zero, suc, codes, ◌+◌, ◌*◌, ◌<◌, ◌^◌, length, drop, filter_map}
use Rattle.std.proofs.Common.{rules, arith, ◌⊎◌, inl, inr, List, [], ◌∷◌, ◌++◌, map, ◌≡◌, Option, None}
use Rattle.std.proofs.Common.{Some, Result, Ok, Err, IfErr, refl, sym, ◌∙◌, ap, subst}
use Rattle.allocative.proofs.Common.{Restore, Yields, Refusal, Key, Forest, Kind, State, Showing, Nothing, Both}
use Rattle.allocative.proofs.Common.{Inside, Field, each_shows, slice_shows, OpensEntry, checked, size_product}
use Rattle.allocative.proofs.Common.{are_shown_each, bytes_shown, CountsRun, in_any_order, Visitor, IsDeclared, CanTake}
use Rattle.allocative.proofs.Common.{FailsOnlyIfFull, with_state, Entered, Means, ClosesEntry, AddsForest, HasFailed}
use Rattle.std.proofs.lemmas.List.{map-append, length-map}
use Rattle.std.proofs.lemmas.List.Elements.{All-nil, All-cons, All-head, All-tail}
use Rattle.std.proofs.lemmas.Bool.Decides.{nat_tests}
use Rattle.std.proofs.lemmas.List.Sorted.{IsPermutation-refl, IsPermutation-sym, All-permutation}
use Rattle.std.proofs.lemmas.Iterator.{YieldsList, items_from_drains}
use Rattle.std.proofs.lemmas.Iterator.Consumers.{YieldsList-so_far, YieldsList-turn}
use Rattle.std.specs.Iterator.{Drains, AlwaysYields}
use Rattle.std.specs.List.{All}
use Rattle.slab.specs.Slab.{entries_from}
use Rattle.allocative.specs.Runs.{RefusesAlong, RefusesCounted, CanCount, IsOfRun}
use Rattle.allocative.proofs.Meaning.{entered_if, entered_as, entered_both, entered_passed, loosely, strict_never}
use Rattle.allocative.proofs.Meaning.{strict_same, means_same}
use Rattle.allocative.specs.Making.{EntersRun, EntersData, MakesPlanOrGives, Done, first_refused, first_entered}
use Rattle.allocative.proofs.Strict.{declared_nothing, declared_first, declared_second, declared_both, declared_append}
use Rattle.allocative.proofs.Strict.{each_append, each_one, entry_fits, not_strict, only_if_full_as, only_if_full_within}
use Rattle.allocative.proofs.Strict.{only_if_full_not_within, around_item, none_of_it}
use Rattle.allocative.proofs.Visits.{adds_entry, adds_weaker, entry_err, close_cause, not_entered, not_entered_cause}
use Rattle.allocative.proofs.Making.{gives_within, gives_refused}
use Rattle.allocative.proofs.ContainerMeaning.{plain_slice, slice_is_each, entry_declared, checked_fits}

-- Items in two runs are the items one after another.
means_append : {T : Type 0} {d : Bool} (p : T → Showing) (xs ys : List T) →
    Means d (Both (each_shows p xs) (each_shows p ys)) (each_shows p (xs ++ ys))
means_append p xs ys = record { means = each_append p xs ys; declared = λ i d. declared_append p xs ys d }

-- One step of a loop shows one more item.
pub entered_next : {A B : Type 0} {e : Bool} (v : A → B) (p : B → Showing) (xs : List A) (x : A) {a b c : Visitor}
    {u w y : Unit {0}} →
    Entered e (each_shows p (map v xs)) a b (Ok u) → Entered e (p (v x)) b c (Ok w) →
    Entered e (each_shows p (map v (xs ++ x ∷ []))) a c (Ok y)
entered_next v p xs x f s =
    let one : Means _ (p (v x)) (each_shows p (v x ∷ [])) =
    record { means = each_one p (v x); declared = λ i d. declared_first d } in
    rw map-append (entered_as (entered_both strict_same strict_same f (entered_as s one))
    (means_append p (map v xs) (v x ∷ [])))

-- What was entered of one whole run was entered of some whole run, but need not be strict.
pub entered_run : {S A B : Type 0} {e : Bool} {steps : S → Option A → S → Type 0} {s : S} {v : A → B}
    {q : List B → Showing} (xs : List A) {a b : Visitor} {r : Result (Unit {0}) Refusal} →
    Drains steps s xs → Entered e (q (map v xs)) a b r → Entered false (IsOfRun steps s v q) a b r
entered_run xs d h = entered_if h strict_never (loosely (λ f g. record { given = xs; drained = d; shown = g }))

-- The items of a whole run are those that every run gives.
same_items : {S A B : Type 0} {steps : S → Option A → S → Type 0} {s : S} {v : A → B} (xs : List A) {ys : List B} →
    Drains steps s xs → YieldsList steps v s ys → map v xs ≡ ys
same_items xs d y = items_from_drains xs (d.1.0, d.1.1, λ _. (d.0, d.1.2)) y

-- If a whole run's items were entered, the strict visit of a list that every run gives refuses only if it must.
pub along_run : {S A B : Type 0} {e : Bool} {steps : S → Option A → S → Type 0} {s : S} {v : A → B}
    {q : List B → Showing} (xs : List A) {a b : Visitor} {r : Result (Unit {0}) Refusal} →
    Drains steps s xs → Entered e (q (map v xs)) a b r → RefusesAlong e steps s v q a b r
along_run {steps = steps} {s = s} xs d h =
    record { along = λ i ys y. rw (← same_items {steps = steps} {s = s} xs d (record { runs = y })) (h.only_if_full i) }

-- The items so far and the next one begin the list that every run gives.
pub begins : {S A B : Type 0} (steps : S → Option A → S → Type 0) (v : A → B) (s : S) {u : S} (t : S) {x : A}
    (xs : List A) (ys : List B) → Yields steps s xs t → steps t (Some x) u → AlwaysYields steps v s ys →
    (rest : List B) × (map v xs ++ v x ∷ rest ≡ ys)
begins steps v s {u = u} t {x = x} [] [] e g y = absurd (y x u (subst (λ z. steps z (Some x) u) (sym e) g))
begins steps v s {u = u} t {x = x} [] (z ∷ zs) e g y =
    (zs, ap (λ w. w ∷ zs) (y.1 x u (subst (λ w. steps w (Some x) u) (sym e) g)).0)
begins steps v s t (w ∷ xs) [] h g y = absurd (y w h.0 h.1)
begins steps v s t (w ∷ xs) (z ∷ zs) h g y =
    let next = y.1 w h.0 h.1 in
    let more = begins steps v h.0 t xs zs h.2 g next.1 in
    (more.0, (λ i. next.0 i ∷ more.1 i))

-- If the items so far were entered and the next one is refused, the run is refused only if it must be.
pub along_refused : {S A B : Type 0} {d : Bool} (steps : S → Option A → S → Type 0) {s u : S} (t : S) {v : A → B}
    {p : B → Showing} {x : A} (xs : List A)
    {a b c : Visitor} {w : Unit {0}} {e : Refusal} {r : Result (Unit {0}) Refusal} → r ≡ Err e → Yields steps s xs t →
    steps t (Some x) u →
    Entered d (each_shows p (map v xs)) a b (Ok w) → Entered d (p (v x)) b c (Err e) →
    RefusesAlong d steps s v (each_shows p) a c r
along_refused steps {s = s} {u = u} t {v} {p} {x} xs is g n f z = record {
  along = λ i ys y.
      let every : YieldsList steps v s ys = record { runs = y } in
      let turn = YieldsList-turn every xs t g (Some x) u x refl n in
      let both = entered_both strict_same strict_same f (entered_passed is strict_same z) in
      rw (← around_item ys (length xs) (v x) turn.0 turn.1, ← YieldsList-so_far every xs t g)
      ((entered_as both (means_append p (map v xs) (v x ∷ drop (suc (length xs)) ys))).only_if_full i);
}

-- An entry that is left shows what was shown inside it, and an Err is the cause.
left_within : {p : Showing} {k : Key} {n : ℕ} {o : Restore} {s t c d : State} (r : Result (Unit {0}) Refusal) →
    OpensEntry false k (Some n) s (Ok o) t → AddsForest p t r c → IfErr r (HasFailed c) → ClosesEntry o c d →
    AddsForest (Inside k n p) s r d × IfErr r (HasFailed d)
left_within (Ok u) g h c l = (adds_entry g refl h l refl, tt)
left_within (Err e) g h c l = (entry_err g refl h l, close_cause l c)

-- An entry is entered with what is entered inside it, once it is left.
entered_within : {p : Showing} {k : Key} {n : ℕ} {o : Restore} {a b : Visitor} {t d : State}
    {r : Result (Unit {0}) Refusal} →
    OpensEntry false k (Some n) a.collector.now (Ok o) t → Entered false p (with_state a t) b r →
    ClosesEntry o b.collector.now d → Entered false (Inside k n p) a (with_state b d) r
entered_within {p = p} {k = k} {n = n} {r = r} g h l =
    let left = left_within {p = p} {k = k} {n = n} r g h.shown h.cause l in search (rules, not_strict)

-- The entry `data` was refused.
pub data_refused : {S A B : Type 0} {e : Bool} {steps : S → Option A → S → Type 0} {s : S} {v : A → B} {p : B → Showing}
    {a : Visitor} {t : State} {x : Refusal} {r : Result (Unit {0}) Refusal} →
    r ≡ Err x → OpensEntry false (codes "data") (Some 8) a.collector.now (Err x) t →
    EntersData e steps s v p a (with_state a t) r
data_refused is g = rw is (search (
  rules,
  not_entered,
  not_entered_cause,
  not_strict,
  only_if_full_not_within,
  first_refused,
  gives_refused,
))

-- The entry `data` was made, the items of a run were entered inside it, and it was left.
pub data_entered : {S A B : Type 0} {e : Bool} {steps : S → Option A → S → Type 0} {s : S} {v : A → B} {p : B → Showing}
    {a b : Visitor} {o : Restore} {t d : State} {r : Result (Unit {0}) Refusal} →
    OpensEntry false (codes "data") (Some 8) a.collector.now (Ok o) t →
    EntersRun steps s v (each_shows p) (with_state a t) b r →
    RefusesAlong e steps s v (each_shows p) (with_state a t) b r →
    MakesPlanOrGives steps s Done (with_state a t) b r → ClosesEntry o b.collector.now d →
    EntersData e steps s v p a (with_state b d) r
data_entered {e = e} {steps = steps} {s = s} {v = v} {p = p} {a = a} {b = b} {d = d} {r = r} g h f m l =
    let inside = entered_within g h l in
    let along : RefusesAlong e steps s v (λ xs. Inside (codes "data") 8 (each_shows p xs)) a (with_state b d) r =
    record { along = λ i ys y. only_if_full_within g (f.along i ys y) l } in
    search (rules, first_entered, gives_within)

-- ---- for callers: when the run is known
-- If every run gives the same list, what was entered of some run was entered of that list.
pub entered_list : {S A B : Type 0} {d e : Bool} {steps : S → Option A → S → Type 0} {s : S} {v : A → B}
    {q : List B → Showing} {all : List B} {a b : Visitor} {r : Result (Unit {0}) Refusal} →
    YieldsList steps v s all → Entered e (IsOfRun steps s v q) a b r → RefusesAlong d steps s v q a b r →
    Entered d (q all) a b r
entered_list {steps = steps} {s = s} {v = v} {q = q} {all = all} y h k =
    let up : (f : Forest) → IsOfRun steps s v q f → q all f =
    λ f o. subst (λ ys. q ys f) (same_items o.given o.drained y) o.shown in
    search (rules, adds_weaker)

-- If items are declared in some order, they are declared in their own order.
any_order_declared : {B : Type 0} (p : B → Showing) (xs : List B) → IsDeclared (in_any_order p xs) →
    IsDeclared (each_shows p xs)
any_order_declared p xs (f, (ys, same, x), s) =
    each_from xs (All-permutation (λ y. IsDeclared (p y)) ys xs (IsPermutation-sym xs ys same) (all_from ys (f, x, s)))
  where
    all_from : (zs : List _) → IsDeclared (each_shows p zs) → All (λ y. IsDeclared (p y)) zs
    all_from [] d = All-nil (λ y. IsDeclared (p y))
    all_from (z ∷ zs) d = All-cons (λ y. IsDeclared (p y)) z zs (declared_first d) (all_from zs (declared_second d))

    each_from : (zs : List _) → All (λ y. IsDeclared (p y)) zs → IsDeclared (each_shows p zs)
    each_from [] h = declared_nothing
    each_from (z ∷ zs) h = declared_both (All-head (λ y. IsDeclared (p y)) z zs h)
        (each_from zs (All-tail (λ y. IsDeclared (p y)) z zs h))

-- If every run gives the same list, what was entered of some run was entered of that list in any order.
pub entered_any_order : {S A B : Type 0} {d e : Bool} {steps : S → Option A → S → Type 0} {s : S} {v : A → B}
    {p : B → Showing} {all : List B} {a b : Visitor} {r : Result (Unit {0}) Refusal} →
    YieldsList steps v s all → Entered e (IsOfRun steps s v (each_shows p)) a b r →
    RefusesAlong d steps s v (each_shows p) a b r → Entered d (in_any_order p all) a b r
entered_any_order {p = p} {all = all} y h k =
    entered_as (entered_list {q = each_shows p} y h k)
    (record { means = λ f x. (all, IsPermutation-refl all, x); declared = λ i d. any_order_declared p all d })

-- ---- the count of a run
-- No forest is the entry of the bytes of items that could not be counted.
none_counted : (name : Key) (size : Option ℕ) (f : Forest) → Field name (size_product size None) Nothing f → ⊥
none_counted name None f h = none_of_it h
none_counted name (Some s) f h = none_of_it h

-- Bytes computed from a count are the bytes of the items.
bytes_counted : (name : Key) (size : Option ℕ) (n : ℕ) (f : Forest) →
    Field name (size_product size (checked n)) Nothing f → bytes_shown name size n f
bytes_counted name size n f h =
    let cases : (checked n ≡ Some n) ⊎ (checked n ≡ None) = grind (arith, nat_tests) in
    elim cases [ inl e ↦ rw e at h | inr e ↦ absurd (none_counted name size f (rw e at h)) ]

-- If items are not shown one by one, entering the entry of their counted bytes enters the slice of some run.
pub plain_run : {S A T : Type 0} {e : Bool} {steps : S → Option A → S → Type 0} {s : S} (v : A → T) (name : Key)
    (size count : Option ℕ) (needs_drop : Bool) (p : T → Showing) {a b : Visitor} {r : Result (Unit {0}) Refusal} →
    are_shown_each needs_drop size ≡ false → CountsRun steps s count →
    Entered e (Field name (size_product size count) Nothing) a b r →
    Entered false (IsOfRun steps s v (slice_shows name size needs_drop p)) a b r
plain_run v name size count needs_drop p e (xs, d, i) h =
    let h' = rw i at h in
    let up = λ (f : Forest) (g : Field name (size_product size (checked (length xs))) Nothing f). plain_slice name size
    needs_drop p (map v xs) e f (rw length-map (bytes_counted name size (length xs) f g)) in
    entered_run xs d (entered_if h' strict_never (loosely (up)))

-- If items are shown one by one, entering the items of some run enters the slice of some run.
pub items_run : {S A T : Type 0} {e : Bool} {steps : S → Option A → S → Type 0} {s : S} (v : A → T) (name : Key)
    (size : Option ℕ) (needs_drop : Bool) (p : T → Showing) {a b : Visitor} {r : Result (Unit {0}) Refusal} →
    are_shown_each needs_drop size ≡ true → Entered e (IsOfRun steps s v (each_shows p)) a b r →
    Entered false (IsOfRun steps s v (slice_shows name size needs_drop p)) a b r
items_run {steps = steps} {s = s} v name size needs_drop p {a = a} {b = b} {r = r} e h =
    subst (λ q. Entered false (IsOfRun steps s v q) a b r) (λ i xs. slice_is_each name size needs_drop p xs e i)
    (entered_if h strict_never means_same)

-- ---- what a counted slice refuses
-- If a product fits a word, so does its second factor, provided that it does when the first is 0.
fits_by : (s n : ℕ) → (s ≡ 0 → n < 2 ^ 64) → s * n < 2 ^ 64 → n < 2 ^ 64
fits_by zero n h l = h refl
fits_by (suc k) n h l =
    let e : suc k * n ≡ n + k * n = grind arith in
    omega (arith, e, l)

-- If a collector can take a slice of countable items as one entry, the entry of their bytes is declared.
counted_declared : {T : Type 0} (name : Key) (size : Option ℕ) (needs_drop : Bool) (p : T → Showing) (ys : List T) →
    are_shown_each needs_drop size ≡ false → CanCount size (length ys) →
    (b : Kind) → CanTake b (slice_shows name size needs_drop p ys) →
    IsDeclared (Field name (size_product size (checked (length ys))) Nothing)
counted_declared name None needs_drop p ys e fits b (d, room) = absurd d.1
counted_declared name (Some s) needs_drop p ys e fits b w =
    let w' : CanTake b (Inside name (s * length ys) Nothing) = rw (e, slice_shows) at w in
    let l = entry_fits false name (s * length ys) b w' in
    let n = fits_by s (length ys) (λ z. fits (ap Some z)) l in
    let is : size_product (Some s) (checked (length ys)) ≡ Some (s * length ys) =
    rw (checked_fits (length ys) n) (checked_fits (s * length ys) l) in
    entry_declared name (s * length ys) _ is

-- Items that are counted are refused rightly if they can be counted.
pub counted_plain : {S A T : Type 0} {e : Bool} {steps : S → Option A → S → Type 0} {s : S} (v : A → T) (name : Key)
    (size count : Option ℕ) (needs_drop : Bool) (p : T → Showing) {a b : Visitor} {r : Result (Unit {0}) Refusal} →
    are_shown_each needs_drop size ≡ false → CountsRun steps s count →
    Entered true (Field name (size_product size count) Nothing) a b r →
    RefusesCounted e size steps s v (slice_shows name size needs_drop p) a b r
counted_plain {steps = steps} {s = s} v name size count needs_drop p {a = a} {b = b} {r = r} e (xs, d, i) h = record {
  along = λ j ys y fits.
      let is : map v xs ≡ ys = same_items {steps = steps} {s = s} xs d (record { runs = y }) in
      let n : length xs ≡ length ys = sym (length-map xs v) ∙ ap length is in
      let told = h.only_if_full refl in
      let counted : FailsOnlyIfFull (Field name (size_product size (checked (length ys))) Nothing) a.collector.now r
      b.collector.now = rw (i, n) at told in
      only_if_full_as (λ f g. plain_slice name size needs_drop p ys e f (bytes_counted name size (length ys) f g))
      (counted_declared name size needs_drop p ys e fits) counted;
}

-- ---- a slab's values
-- Without their keys, the entries of slots are the values of the filled slots, whatever the first key is.
pub values_from : {T : Type 0} (key : ℕ) (slots : List (Option T)) →
    map (λ e. e.1) (entries_from key slots) ≡ filter_map (λ slot. slot) slots
values_from key [] = refl
values_from key (None ∷ rest) = values_from (key + 1) rest
values_from key (Some x ∷ rest) = ap (λ xs. x ∷ xs) (values_from (key + 1) rest)
