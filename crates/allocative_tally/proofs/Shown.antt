-- What is shown as something else.
use Rattle.std.proofs.Common.{◌≡◌, ◌<◌, ◌+◌, ◌-◌, ◌*◌, ℕ, Bool, true, false, List, [], ◌∷◌, ◌++◌, length, Option, Some}
use Rattle.std.proofs.Common.{refl, sym, codes, append-nil, inr}
use Rattle.std.proofs.lemmas.List.Sorted.{IsPermutation-refl}
use Rattle.allocative.proofs.Common.{Empty, Key, Showing, Both, InsideAs, Inside, Field, sized}
use Rattle.allocative.proofs.Common.{each_shows, Nothing, slice_shows, buffer_shows, table_shows, with_room}
use Rattle.allocative.proofs.Strict.{each_append, each_one, followed_by-empty}
use Rattle.allocative.specs.Bodies.{cut_shows, is_cut, text_shows, is_text, are_shown_each, bytes_shown, buffer_entry}
use Rattle.allocative.specs.Bodies.{data_shows}
use Rattle.allocative.specs.PackShows.{index_data_shows, is_index_data, small_vec_inside, lies_inline, is_spilled}
use Rattle.allocative.specs.StdShows.{in_any_order}
use Rattle.allocative_described.specs.Sizes.{IsRawTableSize}
use Rattle.smallvec.specs.SmallVec.{SmallVec, IsSpilled}
use Rattle.allocative_tally.specs.{ShownAs, in_slices}

-- A field of a declared size is an entry of it.
pub field_as : {k : Key} {n : ℕ} {p : Showing} → ShownAs (Inside k n p) (Field k (Some n) p)
field_as = record { up = λ f x. sized x }

-- Items and one more are items.
pub each_as : {T : Type 0} (p : T → Showing) (xs : List T) (x : T) →
    ShownAs (Both (each_shows p xs) (p x)) (each_shows p (xs ++ x ∷ []))
each_as p xs x =
    record { up = λ h (y, z, v, w, e). each_append p xs (x ∷ []) h (y, z, v, each_one p x z w, e) }

-- What a text shows inside its own entry.
abbrev text_entries : ℕ → ℕ → Showing
text_entries n c = InsideAs true (codes "ptr") 8 (Inside (codes "capacity") c
    (Both (Inside (codes "u8") n Nothing) (Inside (codes "unused_capacity") (c - n) Nothing)))

-- A text is its entries.
pub text_as : {n c : ℕ} → ShownAs (text_entries n c) (text_shows n c)
text_as = record { up = λ f x. is_text x }

-- Items that are shown one by one are shown so in one slice or in two.
pub each_in : {T : Type 0} (cut : Bool) (name : Key) (z : ℕ) (needs_drop : Bool) (p : T → Showing) (xs : List T) →
    are_shown_each needs_drop (Some z) ≡ true → ShownAs (each_shows p xs) (in_slices cut name (Some z) needs_drop p xs)
each_in false name z needs_drop p xs is = rw (is, slice_shows) (record { up = λ f x. x })
each_in true name z needs_drop p xs is = record {
  up = λ f x. is_cut xs [] (append-nil xs)
      (f, Empty, rw (is, slice_shows) x, rw (is, slice_shows) refl, sym (followed_by-empty f));
}

-- Other items, cut in two, are two entries, of all bytes and of none.
pub cut_as : {T : Type 0} (name : Key) (z : ℕ) (needs_drop : Bool) (p : T → Showing) (xs : List T) →
    are_shown_each needs_drop (Some z) ≡ false →
    ShownAs (Both (Inside name (z * length xs) Nothing) (Inside name (z * 0) Nothing))
    (cut_shows name (Some z) needs_drop p xs)
cut_as name z needs_drop p xs is = record {
  up = λ f (g, h, x, y, e). is_cut xs [] (append-nil xs) (g, h, rw (is, slice_shows) x, rw (is, slice_shows) y, e);
}

-- A buffer that is there is its entry.
pub buffer_as : {size : Option ℕ} {p : Showing} {item n c : ℕ} → size ≡ Some item → 0 < item → 0 < n + c →
    ShownAs (buffer_entry size p (c - n)) (buffer_shows size p n c)
buffer_as e some room = record { up = λ f x. with_room e some room x }

-- A small vector whose items are in place is a field for each.
pub inline_as : {T : Type 0} {n : ℕ} {size : Option ℕ} {p : T → Showing} {v : SmallVec T} → ¬ IsSpilled n v →
    ShownAs (data_shows size p v.items) (small_vec_inside n size p v)
inline_as is = record { up = λ f x. lies_inline is x }

-- A small vector whose items are in an allocation is a pointer.
pub spilled_as : {T : Type 0} {n : ℕ} {size : Option ℕ} {p : T → Showing} {v : SmallVec T} → IsSpilled n v →
    ShownAs (InsideAs true (codes "ptr") 8 (data_shows size p v.items)) (small_vec_inside n size p v)
spilled_as is = record { up = λ f x. is_spilled is x }

-- The data of a container in the order of insertion is its entry.
pub index_data_as : {size : Option ℕ} {p : Showing} {u : ℕ} →
    ShownAs (InsideAs true (codes "data") 8 (Both p (bytes_shown (codes "unused_capacity") size u)))
    (index_data_shows size p u)
index_data_as = record { up = λ f x. is_index_data x }

-- The hash table of some items is its entry.
pub table_as : {n : ℕ} {bytes : Option ℕ} → 0 < n → IsRawTableSize (Some 8) n bytes →
    ShownAs (InsideAs true (codes "raw_table") 8 (Field (codes "alloc") bytes Nothing)) (table_shows n)
table_as {bytes = bytes} some is = record { up = λ f x. inr (some, (bytes, is, x)) }

-- What is inside an entry is shown otherwise.
pub inside_as : (u : Bool) (k : Key) (n : ℕ) {p q : Showing} → ShownAs p q →
    ShownAs (InsideAs u k n p) (InsideAs u k n q)
inside_as u k n a = record { up = λ f (g, x, e). (g, a.up g x, e) }

-- Items in their own order are items in some order.
pub order_as : {T : Type 0} (p : T → Showing) (xs : List T) → ShownAs (each_shows p xs) (in_any_order p xs)
order_as p xs = record { up = λ f x. (xs, IsPermutation-refl xs, x) }
