-- How the showing of a container follows from its parts: slices, buffers, texts, tables, and cells.
use Rattle.std.proofs.Common.{codes, if◌then◌else◌, Bool, true, false, length, List, ◌++◌, Option, None, Some, ◌≡◌, ℕ}
use Rattle.std.proofs.Common.{rules, ◌+◌, ◌-◌, ◌*◌, ◌<◌, ◌^◌, Result, inl, inr, refl, ◌∙◌, ap, subst, arith}
use Rattle.allocative.proofs.Common.{checked, Refusal, Key, Forest, Kind, Showing, Nothing, Both, Inside, Unique}
use Rattle.allocative.proofs.Common.{Field, IsField, sized, each_shows, slice_shows, are_shown_each, bytes_shown}
use Rattle.allocative.proofs.Common.{without_size, without_room, with_room, buffer_shows, table_shows, IsDeclared}
use Rattle.allocative.proofs.Common.{CanTake, Visitor, Entered, Means}
use Rattle.std.proofs.lemmas.Bool.{false≢true}
use Rattle.std.proofs.lemmas.Bool.Decides.{nat_tests}
use Rattle.smallvec.specs.SmallVec.{SmallVec, IsSpilled}
use Rattle.allocative_described.specs.Sizes.{IsRawTableSize}
use Rattle.allocative_described.proofs.Sizes.{raw_table_size_same}
use Rattle.allocative_graph.specs.Shows.{is_shown_each}
use Rattle.allocative.specs.Bodies.{buffer_entry, cut_shows, is_cut, data_shows, is_text, text_shows}
use Rattle.allocative.specs.PackShows.{once_inside, is_not_set, is_set, small_vec_inside, lies_inline, is_spilled}
use Rattle.allocative.specs.PackShows.{index_data_shows, is_index_data}
use Rattle.allocative.specs.StdShows.{some_value, is_value, cell_inside, not_had, is_had}
use Rattle.allocative.proofs.Strict.{declared_nothing, declared_both, declared_entry, each_append, declared_append}
use Rattle.allocative.proofs.Strict.{entry_fits, only_if_full_as, none_of_it}
use Rattle.allocative.proofs.Visits.{adds_weaker}
use Rattle.allocative.proofs.Meaning.{loosely, entered_loosely, visited_as, visited_of_strict, means_same, means_both}
use Rattle.allocative.proofs.Meaning.{means_unique, means_field, means_then, means_either}

-- ---- slices
-- If the size of a field is m or missing, each of its forests is one of the inline entry of m bytes.
field_of_product : (k : Key) (p : Showing) (m : ℕ) (b : Bool) (f : Forest) →
    IsField k p (if b then Some m else None) f → Inside k m p f
field_of_product k p m true f (sized h) = h
field_of_product k p m false f h = elim h [ ]

-- If the items are not shown one by one, the entry of their bytes is a forest of their slice.
pub plain_slice : {T : Type 0} (name : Key) (size : Option ℕ) (needs_drop : Bool) (p : T → Showing) (xs : List T) →
    are_shown_each needs_drop size ≡ false →
    (f : Forest) → bytes_shown name size (length xs) f → slice_shows name size needs_drop p xs f
plain_slice name None needs_drop p xs e f h = none_of_it h
plain_slice name (Some s) needs_drop p xs e f h =
    rw (e, slice_shows) (field_of_product name Nothing (s * length xs) _ f h)

-- Bytes that fit a word are those that are computed.
pub checked_fits : (n : ℕ) → n < 2 ^ 64 → checked n ≡ Some n
checked_fits n h = grind (arith, nat_tests, h)

-- A field with a size and nothing inside it is declared.
pub entry_declared : (k : Key) (m : ℕ) (size : Option ℕ) → size ≡ Some m → IsDeclared (Field k size Nothing)
entry_declared k m size e = rw e (let d = declared_entry false k m declared_nothing in (d.0, sized d.1, d.2))

-- If items are not shown one by one, and a collector can take their slice, the entry of their bytes is declared.
plain_declared : {T : Type 0} (name : Key) (size : Option ℕ) (needs_drop : Bool) (p : T → Showing) (xs : List T) →
    are_shown_each needs_drop size ≡ false →
    (b : Kind) → CanTake b (slice_shows name size needs_drop p xs) → IsDeclared (bytes_shown name size (length xs))
plain_declared name None needs_drop p xs e b (d, room) = absurd d.1
plain_declared name (Some s) needs_drop p xs e b w =
    let w' : CanTake b (Inside name (s * length xs) Nothing) = rw (e, slice_shows) at w in
    entry_declared name (s * length xs) (checked (s * length xs))
    (checked_fits (s * length xs) (entry_fits false name (s * length xs) b w'))

-- If the items are not shown one by one, entering the entry of their bytes enters their slice.
pub entered_plain : {T : Type 0} {x : Bool} (name : Key) (size : Option ℕ) (needs_drop : Bool) (p : T → Showing)
    (xs : List T) {a b : Visitor} {r : Result (Unit {0}) Refusal} →
    are_shown_each needs_drop size ≡ false → Entered x (bytes_shown name size (length xs)) a b r →
    Entered x (slice_shows name size needs_drop p xs) a b r
entered_plain name size needs_drop p xs e s =
    let up = plain_slice name size needs_drop p xs e in
    let down = plain_declared name size needs_drop p xs e in
    search (rules, adds_weaker, only_if_full_as)

-- If the items are shown one by one, their slice shows what the items one after another show.
pub slice_is_each : {T : Type 0} (name : Key) (size : Option ℕ) (needs_drop : Bool) (p : T → Showing) (xs : List T) →
    are_shown_each needs_drop size ≡ true → each_shows p xs ≡ slice_shows name size needs_drop p xs
slice_is_each name None needs_drop p xs e = absurd (false≢true e)
slice_is_each name (Some s) needs_drop p xs e = rw (e, slice_shows) refl

-- If the items are shown one by one, entering them one after another enters their slice.
pub entered_one_by_one : {T : Type 0} {x : Bool} (name : Key) (size : Option ℕ) (needs_drop : Bool) (p : T → Showing)
    (xs : List T) {a b : Visitor} {r : Result (Unit {0}) Refusal} →
    are_shown_each needs_drop size ≡ true → Entered x (each_shows p xs) a b r →
    Entered x (slice_shows name size needs_drop p xs) a b r
entered_one_by_one {x = x} name size needs_drop p xs {a} {b} {r} e s =
    subst (λ q. Entered x q a b r) (slice_is_each name size needs_drop p xs e) s

-- ---- buffers
-- If the items have size 0, no entry means their buffer.
pub means_without_size : {x : Bool} {p : Showing} {n c s : ℕ} {size : Option ℕ} → size ≡ Some s → s ≡ 0 →
    Means x Nothing (buffer_shows size p n c)
means_without_size e z = record { means = λ f h. without_size (e ∙ ap Some z) h; declared = λ i d. declared_nothing }

-- If there is neither an item nor room for one, no entry means the buffer.
pub means_without_room : {x : Bool} {p : Showing} {n c s : ℕ} {size : Option ℕ} → size ≡ Some s → n ≡ 0 → c ≡ 0 →
    Means x Nothing (buffer_shows size p n c)
means_without_room e z y = record { means = λ f h. without_room e z y h; declared = λ i d. declared_nothing }

-- If items have a size above 0, and there is an item or room for one, each forest of a buffer is one of its entry.
in_room : {size : Option ℕ} {p : Showing} {n c s : ℕ} → size ≡ Some s → 0 < s → 0 < n + c → (f : Forest) →
    buffer_shows size p n c f → buffer_entry size p (c - n) f
in_room {s = s} is h l f (without_size i e) = let z : s ≡ 0 = cc in absurd (omega (arith, h, z))
in_room is h l f (without_room i y z e) = absurd (omega (arith, l, y, z))
in_room is h l f (with_room i y z x) = x

-- If items have a size above 0, and there is an item or room for one, the buffer's entry means the buffer.
pub means_with_room : {x : Bool} {p : Showing} {n c s u : ℕ} {size : Option ℕ} → size ≡ Some s → 0 < s → 0 < n + c →
    u ≡ c - n → Means x (buffer_entry size p u) (buffer_shows size p n c)
means_with_room e z y i = rw i (means_either (λ f x. with_room e z y x) (in_room e z y))

-- Items without a size have no buffer.
pub no_buffer : {p : Showing} {n c : ℕ} {size : Option ℕ} → size ≡ None → IsDeclared (buffer_shows size p n c) → ⊥
no_buffer e (f, without_size i z, s) = cc
no_buffer e (f, without_room i y z w, s) = cc
no_buffer e (f, with_room i y z x, s) = cc

-- An entry with p and something else inside it means one with q and the other, if p means q.
in_entry : {x : Bool} (k : Key) {p q r : Showing} → Means x p q →
    Means x (Unique k 8 (Both p r)) (Unique k 8 (Both q r))
in_entry k m = means_unique refl (means_both m means_same)

-- If each forest of a buffer's entry with p is one with q, each forest of the buffer with p is one with q.
in_buffer : {p q : Showing} {y : Option ℕ} {n c : ℕ} →
    ((f : Forest) → buffer_entry y p (c - n) f → buffer_entry y q (c - n) f) → (f : Forest) → buffer_shows y p n c f →
    buffer_shows y q n c f
in_buffer up f (without_size i e) = without_size i e
in_buffer up f (without_room i z r e) = without_room i z r e
in_buffer up f (with_room i some room x) = with_room i some room (up f x)

-- If a buffer's entry with p is declared when the one with q is, so is the buffer.
buffer_declared : {p q : Showing} {y : Option ℕ} {n c : ℕ} →
    (IsDeclared (buffer_entry y q (c - n)) → IsDeclared (buffer_entry y p (c - n))) →
    IsDeclared (buffer_shows y q n c) → IsDeclared (buffer_shows y p n c)
buffer_declared up (f, without_size i e, s) = (f, without_size i e, s)
buffer_declared up (f, without_room i z r e, s) = (f, without_room i z r e, s)
buffer_declared up (f, with_room i some room x, s) = let d = up (f, x, s) in (d.0, with_room i some room d.1, d.2)

-- If p means q, a buffer of p means a buffer of q with the same size of items, length and capacity.
pub means_buffer : {x : Bool} {y z : Option ℕ} {n l c d : ℕ} {p q : Showing} → y ≡ z → n ≡ l → c ≡ d → Means x p q →
    Means x (buffer_shows y p n c) (buffer_shows z q l d)
means_buffer e i j m = let w = in_entry (codes "ptr") m in
    rw (e, i, j) (record { means = in_buffer w.means; declared = λ h. buffer_declared (w.declared h) })

-- ---- sequences in two slices
-- The slices of a list that was cut in two are those of the list.
pub means_cut : {T : Type 0} {x : Bool} {name : Key} {size : Option ℕ} {needs_drop : Bool} {p : T → Showing}
    {xs ys : List T} → xs ≡ ys → Means x (cut_shows name size needs_drop p xs) (cut_shows name size needs_drop p ys)
means_cut e = rw e means_same

-- The slices of its two parts, one after the other.
cut_declared : {T : Type 0} (name : Key) (size : Option ℕ) (needs_drop : Bool) (p : T → Showing) (xs ys : List T) →
    IsDeclared (cut_shows name size needs_drop p (xs ++ ys)) →
    IsDeclared (Both (slice_shows name size needs_drop p xs) (slice_shows name size needs_drop p ys))
cut_declared {T} name None needs_drop p xs ys (f, is_cut front back e (g, h, x, y, i), s) = absurd x
cut_declared {T} name (Some z) needs_drop p xs ys (f, is_cut front back e b, s) =
    by_each (is_shown_each needs_drop z) refl
  where
    by_each : (each : Bool) → is_shown_each needs_drop z ≡ each →
        IsDeclared (Both (slice_shows name (Some z) needs_drop p xs) (slice_shows name (Some z) needs_drop p ys))
    by_each true j =
        let b' : Both (each_shows p front) (each_shows p back) f = rw (j, slice_shows) at b in
        let w : IsDeclared (each_shows p (front ++ back)) = (f, each_append p front back f b', s) in
        rw (j, slice_shows) (declared_append p xs ys (subst (λ (zs : List T). IsDeclared (each_shows p zs)) e w))
    by_each false j = rw (j, slice_shows) (declared_both (declared_entry false name _ declared_nothing)
        (declared_entry false name _ declared_nothing))

-- The slices of two lists, one after the other, mean the slices of the list that was cut into these two.
pub means_both_cut : {T : Type 0} {x : Bool} {name : Key} {size : Option ℕ} {needs_drop : Bool} {p : T → Showing}
    {all : List T} (xs ys : List T) → xs ++ ys ≡ all →
    Means x (Both (slice_shows name size needs_drop p xs) (slice_shows name size needs_drop p ys))
    (cut_shows name size needs_drop p all)
means_both_cut {name = name} {size = size} {needs_drop = needs_drop} {p = p} xs ys e =
    rw (← e) (record { means = λ f. is_cut xs ys refl; declared = λ i. cut_declared name size needs_drop p xs ys })

-- ---- texts
-- The entries of a text's pointer, capacity, bytes and unused bytes mean what the text shows of its buffer.
pub means_text : {x : Bool} {n l m c u : ℕ} → n ≡ l → m ≡ c → u ≡ c - l →
    Means x (Unique (codes "ptr") 8 (Inside (codes "capacity") m
    (Both (Inside (codes "u8") n Nothing) (Inside (codes "unused_capacity") u Nothing)))) (text_shows l c)
means_text i j k = rw (i, j, k) (means_either (λ f x. is_text x) (λ f x. elim x [ is_text y ↦ y ]))

-- ---- containers in order of insertion
-- A unique entry with what means the items, and the unused places, means a container's data.
pub means_index_data : {x : Bool} {y z : Option ℕ} {u w : ℕ} {p q : Showing} → y ≡ z → u ≡ w → Means x p q →
    Means x (Unique (codes "data") 8 (Both p (bytes_shown (codes "unused_capacity") y u))) (index_data_shows z q w)
means_index_data e i m =
    rw (e, i) (means_then (in_entry (codes "data") m)
    (means_either (λ f x. is_index_data x) (λ f x. elim x [ is_index_data y ↦ y ])))

-- ---- tables
-- If there are no items, no entry means their hash table.
pub means_no_table : {x : Bool} {n : ℕ} → n ≡ 0 → Means x Nothing (table_shows n)
means_no_table e = record { means = λ f h. inl (e, h); declared = λ i d. declared_nothing }

-- The table of some items is declared only with its one size.
in_table : {n : ℕ} {bytes : Option ℕ} → 0 < n → IsRawTableSize (Some 8) n bytes → (f : Forest) → table_shows n f →
    Unique (codes "raw_table") 8 (Field (codes "alloc") bytes Nothing) f
in_table h is f (inl (none, x)) = absurd (omega (arith, h, none))
in_table {n} {bytes} h is f (inr (some, (b, of, x))) = rw (raw_table_size_same (Some 8) n b bytes of is) at x

-- If there are items, a unique entry with an entry of the table's bytes inside it means their hash table.
pub means_some_table : {x : Bool} {n : ℕ} {bytes : Option ℕ} → 0 < n → IsRawTableSize (Some 8) n bytes →
    Means x (Unique (codes "raw_table") 8 (Field (codes "alloc") bytes Nothing)) (table_shows n)
means_some_table {bytes = bytes} h is = means_either (λ f x. inr (h, (bytes, is, x))) (in_table h is)

-- The hash tables of equally many items mean each other.
pub means_table : {x : Bool} {n l : ℕ} → n ≡ l → Means x (table_shows n) (table_shows l)
means_table e = rw e means_same

-- ---- small vectors and cells that are set once
-- If a small vector has spilled, a pointer to what means its items' data means the inside of its entry.
pub means_spilled : {T : Type 0} {x : Bool} {n : ℕ} {y : Option ℕ} {p : T → Showing} {v : SmallVec T} {k : Key}
    {q : Showing} → IsSpilled n v → k ≡ codes "ptr" → Means x q (data_shows y p v.items) →
    Means x (Unique k 8 q) (small_vec_inside n y p v)
means_spilled is e m = means_then (means_unique e m)
    (means_either (λ f x. is_spilled is x) (λ f x. elim x
    [ lies_inline not y ↦ absurd (not is) | is_spilled so y ↦ y ]))

-- If a small vector has not spilled, what means its items' data means the inside of its entry.
pub means_inline : {T : Type 0} {x : Bool} {n : ℕ} {y : Option ℕ} {p : T → Showing} {v : SmallVec T} {q : Showing} →
    ¬ IsSpilled n v → Means x q (data_shows y p v.items) →
    Means x q (small_vec_inside n y p v)
means_inline is m = means_then m (means_either (λ f x. lies_inline is x)
    (λ f x. elim x [ lies_inline not y ↦ y | is_spilled so y ↦ absurd (is so) ]))

-- A contract does not see whether the cell is set, so its visits are not strict.
pub means_not_set : {T : Type 0} {p : T → Showing} → Means false Nothing (once_inside p)
means_not_set = loosely (λ f x. is_not_set x)

-- A pointer to some value means the inside of a cell that is set once, in a visit that is not strict.
pub means_set : {T : Type 0} {p : T → Showing} (x : T) {k : Key} → k ≡ codes "ptr" →
    Means false (Unique k 8 (p x)) (once_inside p)
means_set x e = rw e (loosely (λ f h. is_set x h))

-- ---- cells and locks. A contract does not see which value a cell holds, so its visits are not strict.
-- The value of a cell that always lends it is some value.
pub means_value : {T : Type 0} {k : Key} {z : Option ℕ} {p : T → Showing} (x : T) → k ≡ codes "data" →
    Means false (Field k z (p x)) (some_value z p)
means_value x e = rw e (loosely (λ f v. is_value x v))

-- A value that can be had is the inside of a cell or a lock.
pub means_had : {T : Type 0} {k : Key} {z : Option ℕ} {p : T → Showing} (x : T) → k ≡ codes "data" →
    Means false (Field k z (p x)) (cell_inside z p)
means_had x e = rw e (loosely (λ f v. is_had x v))

-- A cell or a lock whose value cannot be had may have nothing inside it.
pub means_not_had : {T : Type 0} {z : Option ℕ} {p : T → Showing} → Means false Nothing (cell_inside z p)
means_not_had = loosely (λ f v. not_had v)

-- The rules for cells and locks.
pub ruleset cells = (visited_as, visited_of_strict, entered_loosely, means_field, means_value, means_had, means_not_had)
