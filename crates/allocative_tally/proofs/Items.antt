-- How texts, buffers and items are counted, and those of arrays, boxes, maps and the packs.
use Rattle.std.proofs.Common.{OnOk, ◌≡◌, ◌≤◌, ◌<◌, ◌+◌, ◌-◌, ◌*◌, ◌^◌, mul-add, ℕ, Bool, true, false, codes}
use Rattle.std.proofs.Common.{List, ◌++◌, length, length-append, Option, Some, None, refl, ap, subst, ◌∙◌, arith, ◌∷◌}
use Rattle.std.proofs.Common.{le_refl, Result, mul-suc, [], map, Ok}
use Rattle.std.{proofs.lemmas.Iterator.YieldsList, proofs.lemmas.Iterator.items_from_drains, specs.Iterator.Yields}
use Rattle.std.{proofs.lemmas.Nat.mul-le, specs.Result.result_and, proofs.lemmas.Bool.Decides.nat_tests}
use Rattle.allocative_described.specs.Sizes.{checked, size_product, IsRawTableSize, size_sum}
use Rattle.allocative_graph.{specs.Owned.direct, proofs.Owned.direct-following}
use Rattle.allocative.proofs.Common.{Key, Showing, Nothing, Inside, InsideAs, Field, buffer_shows, Forest, Both}
use Rattle.allocative.proofs.Common.{sized, each_shows, table_shows, Refusal, Entered, slice_shows}
use Rattle.allocative.specs.Bodies.{text_shows, are_shown_each, bytes_shown}
use Rattle.allocative.{proofs.ContainerMeaning.checked_fits, specs.Runs.field_of}
use Rattle.allocative.{specs.Runs.pair_shows, specs.declared.visitor.Visitor.Visitor}
use Rattle.allocative_tally.proofs.Shown.{text_as, each_in, cut_as, buffer_as, table_as, each_as}
use Rattle.allocative_tally.specs.{Shape, Wide, NoEntry, Beside, EntryAt, forest_of, sum_of, sum_times, entries}
use Rattle.allocative_tally.specs.{bytes_times, top_bytes, pointers_shape, slices_shape, AddsBytes, items_shape, buffer_shape, bytes_shape, pairs_shape}
use Rattle.allocative_tally.specs.{table_shape, shape_shows, IsNothing, ShownAs, TalliesNext, size_times}
use Rattle.allocative_tally.specs.{AddsPlaces, buffer_of, in_slices, TalliesMany, FitsWord, IsWithin}
use Rattle.allocative_tally.specs.{both_bounds, TalliesFields, AddsItems, AreFields, HoldsOfEveryRun, IsWhole, Width}
use Rattle.allocative_tally.specs.{is_unique, HasWidth, text_shape, AddsEntry, ShapeCounts, Told, starts_both}
use Rattle.allocative_tally.specs.{starts_sum, no_bytes}
use Rattle.allocative_tally.proofs.Counting.{counted_field, counted_inline, counted_unique, counted_leaf, tallies_both}
use Rattle.allocative_tally.proofs.Counting.{tallies_as, tallies_then, tallies_none, entry_direct, shape_direct}
use Rattle.allocative_tally.proofs.Counting.{tallies_to, tallies_entry}
use Rattle.allocative_tally.proofs.Sizes.{holds_bytes, holds_itself, room_checked, HoldsBound}
use Rattle.allocative_tally.proofs.Fields.{adds_of, one_more, and_told, shown_counts, told_by, told_then, next_sized}
use Rattle.allocative_tally.proofs.Fields.{FieldsCount}
use Rattle.allocative_tally.proofs.Entering.{entered_counted, counts}
use Rattle.allocative_tally.specs.{Tallies.Tallies, declared.places.Places.Places, declared.tally.CountError.CountError}

-- ---- texts
-- A text is five entries.
pub text_counted : {l c a b u a' b' u' : ℕ} → l ≤ c → a' ≡ a + c → b' ≡ b + l → u' ≡ u + (c - l) → a' < 2 ^ 64 →
    TalliesNext (Some 24) (Field (codes "String") (Some 24) (text_shows l c))
    (λ n. entries (codes "String") (Some 24) n (text_shape n a b u))
    (λ n. entries (codes "String") (Some 24) n (text_shape n a' b' u'))
text_counted {l} {c} {a} {b} {u} {a'} {b'} {u'} room capacity used unused fits = record {
  declared = record { bytes = 24; sized = refl; fits = omega arith };
  next = λ n.
      let inside = counted_inline {k = codes "capacity"} (adds_of n (n + 1) refl capacity)
      (tallies_both (counted_leaf {k = codes "u8"} (adds_of n (n + 1) refl used))
      (counted_leaf {k = codes "unused_capacity"} (adds_of n (n + 1) refl unused)))
      (holds_bytes (omega (arith, room))) in
      let before = entry_direct Wide (codes "capacity") (sum_of n a)
      (Beside (bytes_shape (codes "u8") n b) (bytes_shape (codes "unused_capacity") n u)) in
      let pointer = counted_unique {k = codes "ptr"} (one_more (Some 8) n (n + 1) refl refl) inside
      (λ r. omega (arith, before, inside.within, capacity, fits)) in
      counted_field refl (counted_inline (one_more (Some 24) n (n + 1) refl refl) (tallies_as text_as pointer)
      (holds_bytes (omega arith)));
}

-- A pointer to bytes is a unique entry with these inside it.
pub bytes_counted : {p l a b : ℕ} {k : Key} (n : ℕ) → AddsBytes l a b →
    Tallies (Some p) (InsideAs true (codes "ptr") p (Inside k l Nothing)) (pointers_shape p k n a)
    (pointers_shape p k (n + 1) b)
bytes_counted {p} {l} {a} {k = k} n more =
    let bytes = counted_leaf {k = k} (adds_of n (n + 1) refl more.all) in
    let before = entry_direct Wide k (sum_of n a) NoEntry in
    counted_unique (one_more (Some p) n (n + 1) refl refl) bytes
    (λ r. omega (arith, before, bytes.within, more.all, more.fits))

-- Bytes behind a pointer are counted, if they were added.
pub bytes_counts : {p l m a b : ℕ} {k : Key} {r : Result (Unit {0}) CountError} → l ≡ m → OnOk r (AddsBytes l a b) →
    FieldsCount (Some p) (InsideAs true (codes "ptr") p (Inside k m Nothing)) (λ n. pointers_shape p k n a)
    (λ n. pointers_shape p k n b) r
bytes_counts same told =
    rw (← same) (told_then (told_by _ told) (λ more. record { next = λ n. bytes_counted n more }))

-- A field of bytes behind a pointer is its entry, that of its type, and the pointer with the bytes.
pub foreign_counts : {k name : Key} {z l m a b : ℕ} {r : Result (Unit {0}) CountError} → 8 ≤ z → l ≡ m →
    OnOk r (AddsBytes l a b) → FieldsCount (Some z)
    (Inside k z (Inside name z (InsideAs true (codes "ptr") 8 (Inside (codes "u8") m Nothing))))
    (λ n. entries k (Some z) n (entries name (Some z) n (pointers_shape 8 (codes "u8") n a)))
    (λ n. entries k (Some z) n (entries name (Some z) n (pointers_shape 8 (codes "u8") n b))) r
foreign_counts fits same told =
    told_then (bytes_counts same told) (λ f. next_sized holds_itself (next_sized (holds_bytes fits) f))

-- ---- containers
-- A container is counted as its own entry of n bytes, with what it shows inside it.
pub container : {X E : Type 0} {m : ℕ} (n : ℕ) (k : Key) {p q : Showing} {s t : Shape} {r : Result X E} → m ≤ n →
    n < 2 ^ 64 → ShownAs (Inside k n p) q → ShapeCounts (Some m) p s t r →
    OnOk r (TalliesNext (Some n) q (λ i. entries k (Some n) i s) (λ i. entries k (Some n) i t))
container n k room fits like inside = (told_then inside (λ a. record {
  declared = record { bytes = n; sized = refl; fits = fits };
  next = λ i. tallies_as like (counted_inline (one_more (Some n) i (i + 1) refl refl) a (holds_bytes room));
})).told

-- ---- places
-- So many values of a size that fit a word have so many bytes.
fits_some : {z n : ℕ} → FitsWord (Some z) n → z * n < 2 ^ 64
fits_some {z} {n} a = let e = a.sized in let same : a.bytes ≡ z = cc in subst (λ (y : ℕ). y * n < 2 ^ 64) same a.fits

-- The bytes of the items before and of those that were added are those of all.
items_all : {size : Option ℕ} {l : ℕ} {old new : Places} (z : ℕ) → AddsItems size l old new →
    z * new.items ≡ z * old.items + z * l
items_all {l = l} {old} z a = ap (λ (i : ℕ). z * i) a.items ∙ mul-add z old.items l

-- So many items of any number before them have at most their bytes at the top, if they have a declared size.
pub record AreWithin (size : Option ℕ) (s : ℕ → Shape) : Type 0 where
  pub most : (z i : ℕ) → size ≡ Some z → direct (forest_of (s i)) ≤ z * i

-- An entry of 8 bytes is counted with the items inside it, if they were counted and added.
pub entry_counts : {E : Type 0} (x : Width) {k : Key} {old new : Places} {size : Option ℕ} {l : ℕ} {p : Showing}
    {s t : ℕ → Shape} {a b r : Result (Unit {0}) E} → r ≡ result_and a b → AreWithin size s →
    ((z : ℕ) (f : Forest) → size ≡ Some z → bytes_times size l ≡ z * l → p f → direct f ≤ z * l → HasWidth x 8 f) →
    Told a (TalliesMany size l p s t) → Told b (AddsItems size l old new) →
    ShapeCounts (Some 8) (InsideAs (is_unique x) k 8 p) (EntryAt x k (sum_times (Some 8) old.buffers) (s old.items))
    (EntryAt x k (sum_times (Some 8) new.buffers) (t new.items)) r
entry_counts x {size = None} e within fits run added =
    and_told e run (λ y. told_then added (λ a. let none = a.room.sized in absurd (cc)))
entry_counts x {k} {old} {new} {size = Some z} {l = l} e within fits run added = and_told e run
    (λ y. told_then added (λ a.
    let all = y.next old.items new.items a.items in
    let room = fits_some a.room in
    tallies_entry x k 8 (one_more (Some 8) old.buffers new.buffers refl a.buffers) all
    (fits z all.counted refl (omega (arith, room, items_all z a)) all.allowed all.within)
    (λ r w b. omega (arith, within.most z old.items refl, all.within, room, items_all z a))))

-- A buffer with unused places is counted with its items, which were counted, if it was added. The items have at most
-- their bytes at the top.
pub places_added : {X E : Type 0} (k other : Key) {old new : Places} {z y l u : ℕ} {p : Showing} {s : Shape}
    (t : ℕ → ℕ → Shape) {r : Result X E} → direct (forest_of s) ≤ z * old.items →
    Tallies (Some (z * l)) p s (t (old.buffers + 1) (old.items + l)) →
    Told r (AddsPlaces (Some z) (Some y) l u old new) →
    ShapeCounts (Some 8) (InsideAs true k 8 (Both p (bytes_shown other (Some y) u)))
    (buffer_shape k other old.buffers s old.unused)
    (buffer_shape k other new.buffers (t new.buffers new.items) new.unused) r
places_added k other {old} {new} {z} {y} {l} {u} {s = s} t top items added = told_then added (λ a.
    let spare = fits_some a.spare_room in
    let bytes = checked_fits (y * u) spare in
    let left = counted_field {k = other} bytes (counted_leaf
    (adds_of old.buffers new.buffers a.adds.buffers (omega (arith, a.unused, spare)))) in
    let inside = tallies_both (rw (← a.adds.buffers, ← a.adds.items) at items) left in
    let within : direct inside.counted ≤ z * l + y * u = grind (arith, inside.within, bytes) in
    let before = direct-following (forest_of s) (forest_of (bytes_shape other old.buffers old.unused)) in
    let unused = entry_direct Wide other (sum_of old.buffers old.unused) NoEntry in
    counted_unique {k = k} (one_more (Some 8) old.buffers new.buffers refl a.adds.buffers) inside (λ r. omega
    (arith, before, unused, within, top, spare, a.unused, a.room, fits_some a.adds.room, items_all z a.adds)))

-- ---- slices
-- Other items than those that are shown one by one are entries of their bytes together.
one_in : {T : Type 0} (cut : Bool) (name : Key) (z : ℕ) (needs_drop : Bool) (p : T → Showing) (xs : List T) (n : ℕ)
    {i j : ℕ} → are_shown_each needs_drop (Some z) ≡ false →
    AddsEntry (z * length xs) (sum_of n i) (sum_of (n + 1) j) →
    Tallies (Some (z * length xs)) (in_slices cut name (Some z) needs_drop p xs)
    (EntryAt Wide name (sum_of n i) NoEntry) (EntryAt Wide name (sum_of (n + 1) j) NoEntry)
one_in false name z needs_drop p xs n is adds = rw (is, slice_shows) (counted_leaf adds)
one_in true name z needs_drop p xs n is adds =
    tallies_to (holds_bytes {m = z * length xs + z * 0} (omega arith)) (cut_as name z needs_drop p xs is)
    (tallies_then (counted_leaf adds)
    (counted_leaf {n = z * 0} (record { is_there = grind arith; bytes = λ room. omega arith })))

-- One more slice of items has more bytes.
adds_slice : (n z i l : ℕ) → AddsEntry (z * l) (sum_of n (bytes_times (Some z) i))
    (sum_of (n + 1) (bytes_times (Some z) (i + l)))
adds_slice n z i l =
    let all = mul-add z i l in record { is_there = grind arith; bytes = λ room. omega (arith, room, all) }

-- One more slice of items is counted, after n slices of i items: each item, or one entry of all bytes.
pub record SliceCounts {T E : Type 0} (cut : Bool) (name : Key) (z : ℕ) (needs_drop : Bool) (p : T → Showing)
    (xs : List T) (s t : ℕ → Shape) (n i : ℕ) (r : Result (Unit {0}) E) : Type 0
  where
    pub slice : ShapeCounts (Some (z * length xs)) (in_slices cut name (Some z) needs_drop p xs)
        (items_shape (are_shown_each needs_drop (Some z)) name n (bytes_times (Some z) i) (s i))
        (items_shape (are_shown_each needs_drop (Some z)) name (n + 1) (bytes_times (Some z) (i + length xs))
        (t (i + length xs))) r

-- So many values more are counted, after n.
pub many_counts : {X E : Type 0} {w : Option ℕ} {l : ℕ} (n : ℕ) {m : ℕ} {p : Showing} {s t : ℕ → Shape}
    {r : Result X E} → m ≡ n + l → Told r (TalliesMany w l p s t) → ShapeCounts (size_times w l) p (s n) (t m) r
many_counts n {m} e run = told_then run (λ a. a.next n m e)

-- A slice of items that are shown one by one is what each item shows.
pub slice_each : {T E : Type 0} (cut : Bool) {name : Key} {z : ℕ} {needs_drop : Bool} {p : T → Showing} {xs : List T}
    {s t : ℕ → Shape} {n i : ℕ} {r : Result (Unit {0}) E} → are_shown_each needs_drop (Some z) ≡ true →
    Told r (TalliesMany (Some z) (length xs) (each_shows p xs) s t) → SliceCounts cut name z needs_drop p xs s t n i r
slice_each cut {name} {z} {needs_drop} {p} {xs} {i = i} is each =
    record { slice = rw is (shown_counts (each_in cut name z needs_drop p xs is) (many_counts i refl each)) }

-- A slice of other items is one entry.
pub slice_one : {T E : Type 0} (cut : Bool) {name : Key} {z : ℕ} {needs_drop : Bool} {p : T → Showing} {xs : List T}
    {s : ℕ → Shape} {n i : ℕ} → are_shown_each needs_drop (Some z) ≡ false →
    SliceCounts {E = E} cut name z needs_drop p xs s s n i (Ok tt)
slice_one cut {name} {z} {needs_drop} {p} {xs} {n = n} {i} is =
    record { slice = rw is (record { told = one_in cut name z needs_drop p xs n is (adds_slice n z i (length xs)) }) }

-- ---- buffers
-- A buffer is counted with its items, if they were counted and added.
pub buffer_counts : {T S E : Type 0} (cut : Bool) {z c : ℕ} {old new : Places} {name : Key} {needs_drop : Bool}
    {p : T → Showing} {xs : List T} {is_none : S → Type 0} {g : S → ℕ → Shape} {u v : S} {a b r : Result (Unit {0}) E} →
    r ≡ result_and a b → 0 < z → 0 < length xs + c → IsWhole (Some z) is_none g →
    SliceCounts cut name z needs_drop p xs (g u) (g v) old.buffers old.items a →
    Told b (AddsPlaces (Some z) (Some z) (length xs) (c - length xs) old new) →
    ShapeCounts (Some 8) (buffer_shows (Some z) (in_slices cut name (Some z) needs_drop p xs) (length xs) c)
    (buffer_of name (Some z) needs_drop old (g u)) (buffer_of name (Some z) needs_drop new (g v)) r
buffer_counts cut {z} {old = old} {name = name} {needs_drop} {xs = xs} {g} {u} {v} e some room whole slice added =
    let i = old.items in
    let items = λ (b : Bool) (n m : ℕ) (s : Shape). items_shape b name n (bytes_times (Some z) m) s in
    let each = are_shown_each needs_drop (Some z) in
    shown_counts (buffer_as refl some room) (and_told e slice.slice
    (λ c. places_added (codes "ptr") (codes "unused_capacity") (λ n m. items each n m (g v m))
    (elim each as (λ b. direct (forest_of (items b old.buffers i (g u i))) ≤ z * i) [
      | true ↦ omega (arith, shape_direct (g u i), whole.most u i)
      | false ↦ omega (arith, entry_direct Wide name (sum_of old.buffers (bytes_times (Some z) i)) NoEntry)
    ]) c added))

-- ---- one by one
-- The bytes of one more value.
times_more : (w : Option ℕ) (n m : ℕ) → m ≡ n + 1 → both_bounds (size_times w n) w ≡ size_times w m
times_more None n m e = refl
times_more (Some s) n m e = ap Some (omega (arith, mul-suc s n, ap (λ (i : ℕ). s * i) e))

-- One value more was counted.
pub many_one : {w : Option ℕ} {p : Showing} {s t : ℕ → Shape} → TalliesNext w p s t → TalliesMany w 1 p s t
many_one {w = None} a = record { next = λ n m e. rw e (a.next n) }
many_one {w = Some z} a = record { next = λ n m e. let one : z * 1 ≡ z = omega arith in rw (e, one) (a.next n) }

-- One more item was counted.
pub many_more : {T : Type 0} {w : Option ℕ} (p : T → Showing) (xs : List T) (x : T) {s t u : ℕ → Shape} →
    TalliesMany w (length xs) (each_shows p xs) s t → TalliesFields w (p x) t u →
    TalliesMany w (length (xs ++ x ∷ [])) (each_shows p (xs ++ x ∷ [])) s u
many_more {w = w} p xs x a b = record {
  next = λ n m e.
      let count : length (xs ++ x ∷ []) ≡ length xs + 1 = length-append xs (x ∷ []) in
      let same : m ≡ n + length xs + 1 = omega (arith, e, count) in
      rw (same, ← times_more w (length xs) (length (xs ++ x ∷ [])) count)
      (tallies_as (each_as p xs x) (tallies_then (a.next n (n + length xs) refl) (b.next (n + length xs))));
}

-- What holds of every list that every run gives holds of such a list.
pub of_every : {S A B : Type 0} {steps : S → Option A → S → Type 0} {s : S} {v : A → B} {r : List B → Type 0}
    {all : List B} → YieldsList steps v s all → HoldsOfEveryRun steps s v r → r all
of_every {all = all} y o = o.along all y.runs

-- What follows from what holds of every list that every run gives holds of it.
pub run_as : {S A B : Type 0} {steps : S → Option A → S → Type 0} {s : S} {v : A → B} {q r : List B → Type 0} →
    HoldsOfEveryRun steps s v q → ((xs : List B) → q xs → r xs) → HoldsOfEveryRun steps s v r
run_as o up = record { along = λ xs y. up xs (o.along xs y) }

-- What holds of all items of a run that has ended holds of every list that every run gives.
pub run_ends : {S A B : Type 0} {steps : S → Option A → S → Type 0} {s : S} (t u : S) {v : A → B}
    {r : List B → Type 0} (xs : List A) → Yields steps s xs t → steps t None u → r (map v xs) →
    HoldsOfEveryRun steps s v r
run_ends {steps = steps} {s} t u {v} {r} xs g n h = record {
  along = λ ys y. let drains = items_from_drains {steps = steps} {v = v} {s = s} xs (t, g, λ _. (u, n)) in
      subst r (drains (record { runs = y })) h;
}

-- ---- arrays and small vectors
-- A size that has room for n items has room for at most n items.
pub holds_items : (l n : ℕ) (w : Option ℕ) → l ≤ n → HoldsBound (size_product (Some n) w) (size_times w l)
holds_items l n None h = record { room = λ d i. tt }
holds_items l n (Some s) h = record {
  room = λ d i. room_checked (n * s) d (omega (arith, i, mul-le l s n s h (omega arith)));
}

-- The product of two sizes does not depend on their order.
pub product_order : (n : ℕ) (w : Option ℕ) → size_product (Some n) w ≡ size_product w (Some n)
product_order n None = refl
product_order n (Some s) = ap checked (omega arith)

-- ---- items of a declared size
-- A field has its declared size.
field_direct : (k : Key) (w : Option ℕ) (n : ℕ) (p : Showing) (f : Forest) → w ≡ Some n → Field k w p f → direct f ≡ n
field_direct k None n p f e x = cc
field_direct k (Some m) n p f e (sized (g, x, i)) = let same : m ≡ n = cc in omega (arith, ap direct i, same)

-- What so many values of a size show has at most their bytes at the top.
pub most_direct : (size : Option ℕ) {z : ℕ} (n : ℕ) (s : Shape) → size ≡ Some z → top_bytes s ≤ bytes_times size n →
    direct (forest_of s) ≤ z * n
most_direct None n s e most = absurd (cc)
most_direct (Some y) {z} n s e most =
    let same : y * n ≡ z * n = ap (λ (i : ℕ). i * n) (cc) in omega (arith, shape_direct s, most, same)

-- Fields under a key have their declared size.
pub are_fields : {T S : Type 0} (k : Key) (size : Option ℕ) (p : T → Showing) (s : S → ℕ → Shape) →
    AreFields size (field_of k size p) (λ t n. entries k size n (s t n))
are_fields k size p s = record {
  bytes = λ x z f e. field_direct k size z (p x) f e;
  most = λ t z n e. most_direct size n (entries k size n (s t n)) e (le_refl _);
}

-- The sum of two sizes is that of sizes that are there.
sum_sized : (v w : Option ℕ) (z : ℕ) → size_sum v w ≡ Some z →
    (m : ℕ) × (n : ℕ) × (v ≡ Some m) × (w ≡ Some n) × (m + n ≡ z)
sum_sized (Some m) (Some n) z e = (m, n, refl, refl, grind (arith, nat_tests, e))
sum_sized v w z e = absurd (cc)

-- Pairs of fields have the sum of both declared sizes.
pub pairs_are_fields : {K V S R : Type 0} (v w : Option ℕ) (p : K → Showing) (q : V → Showing) (s : S → ℕ → Shape)
    (t : R → ℕ → Shape) →
    AreFields (size_sum v w) (pair_shows v p w q) (λ (u : S × R). pairs_shape v w (s u.0) (t u.1))
pairs_are_fields v w p q s t =
    let a = are_fields (codes "key") v p s in
    let b = are_fields (codes "value") w q t in record {
      bytes = λ e z f i x.
          let (m, n, first, second, all) = sum_sized v w z i in
          let top = ap direct x.4 ∙ direct-following x.0 x.1 in
          omega (arith, all, top, a.bytes e.0 m x.0 first x.2, b.bytes e.1 n x.1 second x.3);
      most = λ u z i e.
          let (m, n, first, second, all) = sum_sized v w z e in
          let keys = forest_of (entries (codes "key") v i (s u.0 i)) in
          let top = direct-following keys (forest_of (entries (codes "value") w i (t u.1 i))) in
          omega (arith, top, ap (λ (k : ℕ). k * i) all, a.most u.0 m i first, b.most u.1 n i second);
    }

-- Items have the bytes of all.
pub fields_direct : {A S : Type 0} {size : Option ℕ} {p : A → Showing} {s : S → ℕ → Shape} (xs : List A) →
    AreFields size p s → (z : ℕ) (f : Forest) → size ≡ Some z → each_shows p xs f → direct f ≡ z * length xs
fields_direct [] a z f e y = ap direct y ∙ omega arith
fields_direct (x ∷ xs) a z f e (g, h, y, l, i) =
    omega (arith, ap direct i ∙ direct-following g h, a.bytes x z g e y, fields_direct xs a z h e l)

-- So many fields have at most their bytes at the top.
pub fields_within : {A S : Type 0} {size : Option ℕ} {p : A → Showing} {s : S → ℕ → Shape} (u : S) →
    AreFields size p s → AreWithin size (s u)
fields_within u a = record { most = a.most u }

-- A buffer of fields is counted with them and its other places, if they were counted and it was added.
pub fields_counts : {A S E : Type 0} {item size : Option ℕ} {u : ℕ} {p : A → Showing} (k other : Key) (xs : List A)
    {g : S → ℕ → Shape} {v v' : S} {old new : Places} {a b r : Result (Unit {0}) E} → r ≡ result_and a b →
    AreFields item p g → Told a (TalliesMany item (length xs) (each_shows p xs) (g v) (g v')) →
    Told b (AddsPlaces item size (length xs) u old new) →
    ShapeCounts (Some 8) (InsideAs true k 8 (Both (each_shows p xs) (bytes_shown other size u)))
    (buffer_shape k other old.buffers (g v old.items) old.unused)
    (buffer_shape k other new.buffers (g v' new.items) new.unused) r
fields_counts {size = None} k other xs e fields run added =
    and_told e run (λ _. told_then added (λ a. let missing = a.spare_room.sized in absurd (cc)))
fields_counts {item = None} {size = Some y} k other xs e fields run added =
    and_told e run (λ _. told_then added (λ a. let missing = a.adds.room.sized in absurd (cc)))
fields_counts {item = Some z} {size = Some y} k other xs {g} {v} {v'} {old} e fields run added =
    let i = old.items in
    let j = i + length xs in
    and_told e run
    (λ items. places_added k other (λ _ m. g v' m) (fields.most v z i refl) (items.next i j refl) added)

-- A slice in a box is counted with its fields, if they were counted and added.
pub boxed_counts : {A S E : Type 0} {size : Option ℕ} {p : A → Showing} {name : Key} (xs : List A) {g : S → ℕ → Shape}
    {v v' : S} {old new : Places} {a b r : Result (Unit {0}) E} → r ≡ result_and a b → AreFields size p g →
    Told a (TalliesMany size (length xs) (each_shows p xs) (g v) (g v')) → Told b (AddsItems size (length xs) old new) →
    ShapeCounts (Some 16)
    (InsideAs true (codes "ptr") 16 (Field name (size_product size (Some (length xs))) (each_shows p xs)))
    (slices_shape name size old.buffers old.items (g v old.items))
    (slices_shape name size new.buffers new.items (g v' new.items)) r
boxed_counts {size = None} xs e fields run added =
    and_told e run (λ y. told_then added (λ a. let none = a.room.sized in absurd (cc)))
boxed_counts {size = Some z} {name = name} xs {g} {v} {v'} {old} {new} e fields run added = and_told e run
    (λ items. told_then added (λ a.
    let i = old.items in
    let l = length xs in
    let all = rw (← a.buffers, ← a.items) at (adds_slice old.buffers z i l) in
    let room = fits_some a.room in
    let inside = items.next i new.items a.items in
    let bytes = checked_fits (z * l) (omega (arith, room, items_all z a)) in
    let slice = counted_field {k = name} bytes (counted_inline all inside (holds_bytes (le_refl _))) in
    let within : direct slice.counted ≤ z * l = subst (IsWithin (direct slice.counted)) bytes slice.within in
    let before = entry_direct Wide name (sum_of old.buffers (bytes_times (Some z) i)) (g v i) in
    counted_unique (one_more (Some 16) old.buffers new.buffers refl a.buffers) slice
    (λ r. omega (arith, before, within, room, items_all z a))))

-- ---- the entry `data`
-- No item shows nothing.
pub none_counted : {T : Type 0} (p : T → Showing) (xs : List T) {s : Shape} → 0 ≡ length xs →
    Tallies (Some 0) (each_shows p xs) s s
none_counted p [] e = tallies_none refl
none_counted p (x ∷ xs) e = absurd (omega (arith, e))

-- ---- containers in the order of insertion
-- The hash table of some items is a unique entry with the table's bytes inside it.
pub table_counted : (a a' c c' : ℕ) {n b : ℕ} {bytes : Option ℕ} → 0 < n → IsRawTableSize (Some 8) n bytes →
    bytes ≡ Some b → a' ≡ a + 1 → c' ≡ c + b → c' < 2 ^ 64 →
    Tallies (Some 8) (table_shows n) (table_shape a c) (table_shape a' c')
table_counted a a' c c' {b = b} {bytes} some is size more buckets fits =
    let inside = counted_field {k = codes "alloc"} size (counted_leaf (adds_of a a' more buckets)) in
    let before = entry_direct Wide (codes "alloc") (sum_of a c) NoEntry in
    let within : direct inside.counted ≤ b = subst (IsWithin (direct inside.counted)) size inside.within in
    tallies_as (table_as some is) (counted_unique (one_more (Some 8) a a' refl more) inside
    (λ r. omega (arith, before, within, buckets, fits)))

-- ---- what is entered
-- The fields of no pairs.
pub starts_pairs : (v w : Option ℕ) {s t : Shape} → IsNothing s → IsNothing t →
    IsNothing (Beside (entries (codes "key") v 0 s) (entries (codes "value") w 0 t))
starts_pairs v w a b = starts_both (starts_sum refl (no_bytes v refl) a) (starts_sum refl (no_bytes w refl) b)

-- Items that were counted from nothing, and entered, were entered as each of them shows.
pub entered_all : {x : Bool} {size : Option ℕ} {n l : ℕ} {q u : Showing} {s t : ℕ → Shape} {a b : Visitor}
    {r : Result (Unit {0}) Refusal} → ShownAs q u → IsNothing (s 0) → FitsWord size n → n ≡ l →
    TalliesMany size l q s t → Entered true (shape_shows (t n)) a b r → Entered x u a b r
entered_all {size = size} {n} {l} {q} {s = s} {t} up none room same items entered =
    let counted : Tallies (size_times size l) q (s 0) (t n) = items.next 0 n (omega (arith, same)) in
    let bound : size_times size l ≡ Some (room.bytes * l) = ap (λ (w : Option ℕ). size_times w l) room.sized in
    entered_counted (counts none (tallies_as up counted) bound
    (omega (arith, room.fits, ap (λ (i : ℕ). room.bytes * i) same))) entered
