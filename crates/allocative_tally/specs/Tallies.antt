-- What counting a value does to what was counted before.
use Rattle.std.specs.Prelude.{◌≡◌, ◌≤◌, ◌<◌, ◌+◌, ◌*◌, ◌^◌, ℕ, Bool, true, false, List, Option, None, Some, Result}
use Rattle.std.specs.Prelude.{OnOk, ⊤, codes}
use Rattle.std.specs.Iterator.{AlwaysYields}
use Rattle.allocative_graph.specs.{Path.Key, Forest.Forest, Forest.followed_by, Owned.direct, Shows.Showing}
use Rattle.allocative_graph.specs.{Shows.slice_shows, declared.refusal.Refusal.Refusal}
use Rattle.allocative.specs.{Bodies.are_shown_each, Bodies.cut_shows, Visited.Entered, declared.visitor.Visitor.Visitor}
use Rattle.allocative_tally.specs.Shapes.{IsNothing, Merged, Shape, forest_of, Holds, IsRight, shape_shows, items_shape}
use Rattle.allocative_tally.specs.Shapes.{buffer_shape, bytes_times, is_there, top_bytes}
use Rattle.allocative_tally.specs.declared.{tally.Sum.Sum, places.Places.Places}

-- The bound of two values, one after another.
abbrev pub both_bounds : Option ℕ → Option ℕ → Option ℕ
both_bounds None n = None
both_bounds (Some m) None = None
both_bounds (Some m) (Some n) = Some (m + n)

-- n is at most a bound, if there is one.
abbrev pub IsWithin : ℕ → Option ℕ → Type 0
IsWithin n None = ⊤
IsWithin n (Some s) = n ≤ s

-- One more forest that p allows, with at most so many bytes at its top, was counted: s was the shape before, and if
-- it was right and the bytes at the top fit a word, that of t merges it and the forest, and t is right.
pub record Tallies (size : Option ℕ) (p : Showing) (s t : Shape) : Type 0 where
  pub counted : Forest
  pub allowed : p counted
  pub within : IsWithin (direct counted) size
  pub merged : IsRight s → direct (forest_of s) + direct counted < 2 ^ 64
      → Merged (followed_by (forest_of s) counted) (forest_of t) × Holds t

-- What holds if a result is `Ok`.
pub record Told {X E : Type 0} (r : Result X E) (P : Type 0) : Type 0 where
  pub told : OnOk r P

-- If a result is `Ok`, a value was counted into a shape.
abbrev pub ShapeCounts : {X E : Type 0} → Option ℕ → Showing → Shape → Shape → Result X E → Type 0
ShapeCounts size p s t r = Told r (Tallies size p s t)

-- A declared size is there, and fits a word.
pub record IsDeclared (size : Option ℕ) : Type 0 where
  pub bytes : ℕ
  pub sized : size ≡ Some bytes
  pub fits : bytes < 2 ^ 64

-- One more value of a declared size was counted into what any number of values show: s is what so many values showed
-- before, and t what so many show then.
pub record TalliesNext (size : Option ℕ) (p : Showing) (s t : ℕ → Shape) : Type 0 where
  pub declared : IsDeclared size
  pub next : (n : ℕ) → Tallies size p (s n) (t (n + 1))

-- So many values are entries of their declared size: they have at most its bytes at the top. No value is no entry, by
-- a tally of nothing.
pub record IsWhole {T : Type 0} (size : Option ℕ) (is_none : T → Type 0) (s : T → ℕ → Shape) : Type 0 where
  pub most : (t : T) (n : ℕ) → top_bytes (s t n) ≤ bytes_times size n
  pub none : (t : T) (n : ℕ) → is_none t → n ≡ 0 → IsNothing (s t n)

-- One more value's fields were counted, which have no declared size of their own.
pub record TalliesFields (size : Option ℕ) (p : Showing) (s t : ℕ → Shape) : Type 0 where
  pub next : (n : ℕ) → Tallies size p (s n) (t (n + 1))

-- The bytes of so many values of a declared size, if there is one.
abbrev pub size_times : Option ℕ → ℕ → Option ℕ
size_times None n = None
size_times (Some s) n = Some (s * n)

-- So many values more, of a declared size each, were counted into what any number of values show.
pub record TalliesMany (size : Option ℕ) (count : ℕ) (p : Showing) (s t : ℕ → Shape) : Type 0 where
  pub next : (n m : ℕ) → m ≡ n + count → Tallies (size_times size count) p (s n) (t m)

-- One more value of a number of its own was counted.
pub record TalliesOwn (size : Option ℕ) (p : Showing) (n : ℕ) (s : ℕ → Shape) (m : ℕ) (t : ℕ → Shape) : Type 0 where
  pub more : m ≡ n + 1
  pub value : TalliesNext size p s t

-- Each item has the bytes of a declared size at its top, and so many items have at most those bytes there.
pub record AreFields {A S : Type 0} (size : Option ℕ) (p : A → Showing) (s : S → ℕ → Shape) : Type 0 where
  pub bytes : (x : A) (z : ℕ) (f : Forest) → size ≡ Some z → p x f → direct f ≡ z
  pub most : (t : S) (z n : ℕ) → size ≡ Some z → direct (forest_of (s t n)) ≤ z * n

-- What items show as a slice, in one piece or cut in two.
abbrev pub in_slices : {T : Type 0} → Bool → Key → Option ℕ → Bool → (T → Showing) → List T → Showing
in_slices false name size needs_drop p xs = slice_shows name size needs_drop p xs
in_slices true name size needs_drop p xs = cut_shows name size needs_drop p xs

-- The bytes of n items of a declared size fit a word.
pub record FitsWord (size : Option ℕ) (n : ℕ) : Type 0 where
  pub bytes : ℕ
  pub sized : size ≡ Some bytes
  pub fits : bytes * n < 2 ^ 64

-- One more entry of n bytes was added to a sum, if the bytes fit a word.
pub record AddsEntry (n : ℕ) (old new : Sum) : Type 0 where
  pub is_there : is_there new ≡ true
  pub bytes : old.bytes + n < 2 ^ 64 → new.bytes ≡ old.bytes + n

-- So many bytes more were added to a number, and all fit a word.
pub record AddsBytes (more old new : ℕ) : Type 0 where
  pub all : new ≡ old + more
  pub fits : new < 2 ^ 64

-- The shape was entered, exactly.
pub record EntersShape (s : Shape) (old new : Visitor) (r : Result (Unit {0}) Refusal) : Type 0 where
  pub entered : Entered true (shape_shows s) old new r

-- Buffers of items of a declared name and size, by what so many items show.
abbrev pub buffer_of : Key → Option ℕ → Bool → Places → (ℕ → Shape) → Shape
buffer_of name size needs_drop places s = buffer_shape (codes "ptr") (codes "unused_capacity") places.buffers
    (items_shape (are_shown_each needs_drop size) name places.buffers (bytes_times size places.items) (s places.items))
    places.unused

-- A buffer with so many items of a declared size was added, and no unused place, and the bytes of all items fit a word.
pub record AddsItems (size : Option ℕ) (used : ℕ) (old new : Places) : Type 0 where
  pub buffers : new.buffers ≡ old.buffers + 1
  pub items : new.items ≡ old.items + used
  pub room : FitsWord size new.items

-- r holds of each list that every run of an iterator that starts at s gives; v is what a contract sees of an item.
pub record HoldsOfEveryRun {S A B : Type 0} (steps : S → Option A → S → Type 0) (s : S) (v : A → B)
    (r : List B → Type 0) : Type 0 where
  pub along : (xs : List B) → AlwaysYields steps v s xs → r xs

-- A buffer with so many items of a declared size was added, and unused places of another, and the bytes of all items
-- and places fit a word.
pub record AddsPlaces (item place : Option ℕ) (used spare : ℕ) (old new : Places) : Type 0 where
  pub adds : AddsItems item used old new
  pub spare_room : FitsWord place spare
  pub unused : new.unused ≡ old.unused + bytes_times place spare
  pub room : bytes_times item new.items + new.unused < 2 ^ 64
