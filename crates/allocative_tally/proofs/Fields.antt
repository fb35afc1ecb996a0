-- How values of structs and enums are counted, by their fields.
use Rattle.std.proofs.Common.{◌≡◌, ◌+◌, ◌*◌, mul-add, ℕ, Option, Some, None, refl, ap, subst, arith, ◌∙◌}
use Rattle.std.proofs.Common.{Result, Ok, Err, OnOk}
use Rattle.std.specs.Result.{result_and}
use Rattle.allocative_tally.specs.{ShapeCounts, Shape, NoEntry, Beside}
use Rattle.allocative_tally.specs.{entries, sum_of, sum_times, TalliesNext, TalliesFields, TalliesOwn}
use Rattle.allocative_tally.specs.{AddsEntry, IsDeclared, both_bounds, ShownAs, Told}
use Rattle.allocative_tally.proofs.Counting.{counted_field, counted_inline, tallies_both, tallies_none}
use Rattle.allocative_tally.proofs.Counting.{tallies_as}
use Rattle.allocative_tally.proofs.Sizes.{HoldsBound, holds_up, holds_both, holds_first, holds_second, holds_first_of}
use Rattle.allocative_tally.proofs.Sizes.{holds_second_of, holds_itself, holds_bytes, holds_nothing, holds_grouped}
use Rattle.allocative_tally.proofs.Sizes.{holds_alone}
use Rattle.allocative_tally.specs.{declared.tally.CountError.CountError, Tallies.Tallies}
use Rattle.allocative.proofs.Common.{Key, Showing, Nothing, Both, Inside, Field}

-- ---- sums
-- One more entry has more bytes.
pub adds_of : (n m : ℕ) {a b c : ℕ} → m ≡ n + 1 → c ≡ a + b → AddsEntry b (sum_of n a) (sum_of m c)
adds_of n m more e = record { is_there = grind (arith, more); bytes = λ room. e }

-- One more value of a declared size is one more entry.
pub one_more : (size : Option ℕ) (n m : ℕ) {z : ℕ} → size ≡ Some z → m ≡ n + 1 →
    AddsEntry z (sum_times size n) (sum_times size m)
one_more None n m e i = absurd (cc)
one_more (Some s) n m {z} e i =
    let same : s ≡ z = cc in
    let all : s * m ≡ s * n + s * 1 = ap (λ (y : ℕ). s * y) i ∙ mul-add s n 1 in record {
      is_there = grind (arith, i);
      bytes = λ room. omega (arith, room, same, all);
    }

-- ---- fields
-- A value is its own entry with its fields inside it.
whole_counted : (n m : ℕ) {b : ℕ} {size w : Option ℕ} {k : Key} {p : Showing} {s t : Shape} → size ≡ Some b →
    m ≡ n + 1 → Tallies w p s t → HoldsBound size w →
    Tallies size (Field k size p) (entries k size n s) (entries k size m t)
whole_counted n m {size = size} {w} sized more fields holds =
    counted_field sized (counted_inline (one_more size n m sized more) fields
    (subst (λ (v : Option ℕ). HoldsBound v w) sized holds))

-- Fields and then others.
pub next_both : {v w : Option ℕ} {p q : Showing} {s s' t t' : ℕ → Shape} → TalliesFields v p s s' →
    TalliesFields w q t t' →
    TalliesFields (both_bounds v w) (Both p q) (λ n. Beside (s n) (t n)) (λ n. Beside (s' n) (t' n))
next_both a b = record { next = λ n. tallies_both (a.next n) (b.next n) }

-- No field.
pub nothing_counted : {s : Shape} → Tallies (Some 0) Nothing s s
nothing_counted = tallies_none refl

-- No field of any number of values.
pub next_nothing : TalliesFields (Some 0) Nothing (λ n. NoEntry) (λ n. NoEntry)
next_nothing = record { next = λ n. nothing_counted }

-- An entry of a size that is written, with fields inside it.
pub next_sized : {k : Key} {z : ℕ} {w : Option ℕ} {p : Showing} {s t : ℕ → Shape} → HoldsBound (Some z) w →
    TalliesFields w p s t →
    TalliesFields (Some z) (Inside k z p) (λ n. entries k (Some z) n (s n)) (λ n. entries k (Some z) n (t n))
next_sized {z = z} holds f =
    record { next = λ n. counted_inline (one_more (Some z) n (n + 1) refl refl) (f.next n) holds }

-- A field of a size that is written.
pub next_fixed : {k : Key} {z : ℕ} → TalliesFields (Some z) (Inside k z Nothing) (λ n. entries k (Some z) n NoEntry)
    (λ n. entries k (Some z) n NoEntry)
next_fixed = next_sized (holds_nothing _) next_nothing

-- A field of a size that is written, with an entry of the name of its type.
pub next_foreign : {k name : Key} {z : ℕ} → TalliesFields (Some z) (Inside k z (Inside name z Nothing))
    (λ n. entries k (Some z) n (entries name (Some z) n NoEntry))
    (λ n. entries k (Some z) n (entries name (Some z) n NoEntry))
next_foreign = next_sized holds_itself next_fixed

-- Fields of a number of values, which has become one more.
pub next_at : {w : Option ℕ} {p : Showing} {n m : ℕ} {s t : ℕ → Shape} → m ≡ n + 1 → TalliesFields w p s t →
    Tallies w p (s n) (t m)
next_at {n = n} more f = rw more (f.next n)

-- A value is its own entry with its fields inside it.
pub next_whole : {size w : Option ℕ} {k : Key} {p : Showing} {s t : ℕ → Shape} → IsDeclared size →
    TalliesFields w p s t → HoldsBound size w →
    TalliesNext size (Field k size p) (λ n. entries k size n (s n)) (λ n. entries k size n (t n))
next_whole d fields holds =
    record { declared = d; next = λ n. whole_counted n (n + 1) d.sized refl (fields.next n) holds }

-- ---- what is told of results
-- What a contract tells of a result.
pub told_by : {X E P : Type 0} (r : Result X E) → OnOk r P → Told r P
told_by r m = record { told = m }

-- What follows from what is told of a result.
pub told_then : {X E P Q : Type 0} {r : Result X E} → Told r P → (P → Q) → Told r Q
told_then {r = Ok x} m ok = record { told = ok m.told }
told_then {r = Err e} m ok = record { told = tt }

-- What follows for two results joined by `and`, if both are `Ok`.
pub and_told : {A Q E : Type 0} {a b r : Result (Unit {0}) E} → r ≡ result_and a b → Told a A → (A → Told b Q) →
    Told r Q
and_told {a = Ok u} e x ok = rw e (ok x.told)
and_told {a = Err f} e x ok = rw e (record { told = tt })

-- What is told of two results joined by `and`, if they are `Ok`.
pub both_ok : {A P X Y E : Type 0} {a : Result X E} {b r : Result Y E} {y : Y} → r ≡ result_and a b → r ≡ Ok y →
    Told a A → Told b P → A × P
both_ok {a = Ok u} {b = Ok v} e i x z = (x.told, z.told)
both_ok {a = Ok u} {b = Err f} e i x z = absurd (cc)
both_ok {a = Err f} e i x z = absurd (cc)

-- ---- fields that are counted
-- What counting a value's fields comes to, if it is `Ok`: they were counted.
abbrev pub FieldsCount : Option ℕ → Showing → (ℕ → Shape) → (ℕ → Shape) → Result (Unit {0}) CountError → Type 0
FieldsCount size p s t r = Told r (TalliesFields size p s t)

-- A field is counted as its value.
pub field_counts : (v : Option ℕ) (k : Key) (p : Showing) (s t : ℕ → Shape) (r : Result (Unit {0}) CountError) →
    OnOk r (TalliesNext v p s t) → FieldsCount v (Field k v p) (λ n. entries k v n (s n)) (λ n. entries k v n (t n)) r
field_counts v k p s t r m = told_then (told_by r m)
    (λ a. record { next = λ n. whole_counted n (n + 1) a.declared.sized refl (a.next n) holds_itself })

-- Fields that are surely counted, and then others.
pub sure_first : {v w : Option ℕ} {p q : Showing} {s s' t t' : ℕ → Shape} {b : Result (Unit {0}) CountError} →
    TalliesFields v p s s' → FieldsCount w q t t' b →
    FieldsCount (both_bounds v w) (Both p q) (λ n. Beside (s n) (t n)) (λ n. Beside (s' n) (t' n)) b
sure_first x y = told_then y (next_both x)

-- Fields, and then others that are surely counted.
pub sure_second : {v w : Option ℕ} {p q : Showing} {s s' t t' : ℕ → Shape} {a : Result (Unit {0}) CountError} →
    FieldsCount v p s s' a → TalliesFields w q t t' →
    FieldsCount (both_bounds v w) (Both p q) (λ n. Beside (s n) (t n)) (λ n. Beside (s' n) (t' n)) a
sure_second x y = told_then x (λ z. next_both z y)

-- Fields and then others are counted, as their results joined.
pub both_count : {v w : Option ℕ} {p q : Showing} {s s' t t' : ℕ → Shape} {a b r : Result (Unit {0}) CountError} →
    r ≡ result_and a b → FieldsCount v p s s' a → FieldsCount w q t t' b →
    FieldsCount (both_bounds v w) (Both p q) (λ n. Beside (s n) (t n)) (λ n. Beside (s' n) (t' n)) r
both_count e x y = and_told e x (λ f. sure_first f y)

-- A value is counted as its fields.
pub whole_counts : {v w : Option ℕ} (k : Key) {p : Showing} {s t : ℕ → Shape} {r : Result (Unit {0}) CountError} →
    IsDeclared v → HoldsBound v w → FieldsCount w p s t r →
    OnOk r (TalliesNext v (Field k v p) (λ n. entries k v n (s n)) (λ n. entries k v n (t n)))
whole_counts k d holds m = (told_then m (λ f. next_whole d f holds)).told

-- What was counted as p was counted as q, if p is shown as q.
pub next_as : {w : Option ℕ} {p q : Showing} {s t : ℕ → Shape} → ShownAs p q → TalliesNext w p s t →
    TalliesNext w q s t
next_as a t = record { declared = t.declared; next = λ n. tallies_as a (t.next n) }

-- ---- cases
-- A value is its own entry, with what its case shows inside it, whatever the number of the values.
pub next_case : {size w : Option ℕ} {k : Key} {p : Showing} {s t : Shape} → IsDeclared size → Tallies w p s t →
    HoldsBound size w → TalliesNext size (Field k size p) (λ n. entries k size n s) (λ n. entries k size n t)
next_case d inside holds = next_whole d (record { next = λ n. inside }) holds

-- A case of several fields is its entry, with the fields inside it.
pub case_counted : {v w : Option ℕ} {k : Key} {p : Showing} {n m : ℕ} {s t : ℕ → Shape} → IsDeclared v → m ≡ n + 1 →
    TalliesFields w p s t → HoldsBound v w → Tallies v (Field k v p) (entries k v n (s n)) (entries k v m (t m))
case_counted {n = n} d more fields holds = rw more (whole_counted n (n + 1) d.sized refl (fields.next n) holds)

-- A case of one value is its entry, with what the value shows.
pub own_counted : {v : Option ℕ} {k : Key} {p : Showing} {n m : ℕ} {s t : ℕ → Shape} → TalliesOwn v p n s m t →
    Tallies v (Field k v p) (entries k v n (s n)) (entries k v m (t m))
own_counted {s = s} {t} a =
    case_counted {s = s} {t = t} a.value.declared a.more (record { next = a.value.next }) holds_itself

-- ---- shapes that are counted
-- What is counted as p is counted as q, if p is shown as q.
pub shown_counts : {X E : Type 0} {w : Option ℕ} {p q : Showing} {s t : Shape} {r : Result X E} → ShownAs p q →
    ShapeCounts w p s t r → ShapeCounts w q s t r
shown_counts a m = told_then m (tallies_as a)

-- Two shapes, one after another, are counted as their results joined.
pub both_shapes : {E : Type 0} {v w : Option ℕ} {p q : Showing} {s s' t t' : Shape} {a b r : Result (Unit {0}) E} →
    r ≡ result_and a b → ShapeCounts v p s s' a → ShapeCounts w q t t' b →
    ShapeCounts (both_bounds v w) (Both p q) (Beside s t) (Beside s' t') r
both_shapes e x y = and_told e x (λ f. told_then y (tallies_both f))

-- A case of one value is counted as its entry.
pub own_counts : {X E : Type 0} {v : Option ℕ} {k : Key} {p : Showing} {n m : ℕ} {s t : ℕ → Shape} {r : Result X E} →
    Told r (TalliesOwn v p n s m t) → ShapeCounts v (Field k v p) (entries k v n (s n)) (entries k v m (t m)) r
own_counts own = told_then own own_counted

-- A value is counted as its own entry, with what its case shows inside it.
pub case_counts : {X E : Type 0} {size w : Option ℕ} (k : Key) {p : Showing} {s t : Shape} {r : Result X E} →
    IsDeclared size → HoldsBound size w → ShapeCounts w p s t r →
    OnOk r (TalliesNext size (Field k size p) (λ n. entries k size n s) (λ n. entries k size n t))
case_counts k d holds m = (told_then m (λ inside. next_case d inside holds)).told

-- The lemmas for what the sizes of fields, one after another, have room for.
pub ruleset holding_fields = (holds_up, holds_both, holds_alone, holds_itself, holds_nothing)

-- The lemmas for what a declared size has room for.
pub ruleset holding = (holding_fields, holds_first, holds_second, holds_first_of, holds_second_of, holds_bytes)

-- The lemmas for what the sizes of tuples have room for.
pub ruleset holding_tuples = (holds_grouped, holding_fields)
