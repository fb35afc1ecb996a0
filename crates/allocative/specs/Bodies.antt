-- What containers show inside their own entries: the bytes of some number of items, and buffers with unused room.
use Rattle.std.specs.Prelude.{◌≡◌, ◌⊎◌, ℕ, ◌+◌, ◌-◌, ◌<◌, Bool, false, length, List, ◌++◌, Option, None, Some, codes}
use Rattle.allocative_described.specs.Sizes.{size_product, IsRawTableSize}
use Rattle.allocative_graph.specs.Path.{Key}
use Rattle.allocative_graph.specs.Forest.{Forest, Empty}
use Rattle.allocative_graph.specs.Shows.{Showing, Nothing, Both, Inside, Unique, Field, is_shown_each, each_shows}
use Rattle.allocative_graph.specs.Shows.{slice_shows}
use Rattle.allocative.specs.Runs.{field_of}

-- Whether the items of a declared size are shown one by one in a slice. They are not if they have no size.
abbrev pub are_shown_each : Bool → Option ℕ → Bool
are_shown_each needs_drop None = false
are_shown_each needs_drop (Some s) = is_shown_each needs_drop s

-- One inline entry of the bytes of n items of a declared size. If there is no size, or the bytes do not fit, there is
-- no forest.
abbrev pub bytes_shown : Key → Option ℕ → ℕ → Showing
bytes_shown k size n = Field k (size_product size (Some n)) Nothing

-- The body of a vector with room for n items: an entry of the bytes of n items. Inside it are the slice and an entry
-- of the bytes of the room that is left.
abbrev pub vec_body : {T : Type 0} → Key → Option ℕ → Bool → (T → Showing) → List T → ℕ → Showing
vec_body name size needs_drop p xs n =
    Field (codes "capacity") (size_product size (Some n))
    (Both (slice_shows name size needs_drop p xs) (bytes_shown (codes "unused_capacity") size (n - length xs)))

-- A buffer on the heap, where p is what its items show: a unique entry of a pointer's bytes, with the items and an
-- entry of the bytes of the unused places inside it.
abbrev pub buffer_entry : Option ℕ → Showing → ℕ → Showing
buffer_entry size p unused = Unique (codes "ptr") 8 (Both p (bytes_shown (codes "unused_capacity") size unused))

-- What a container shows of the buffer of its n items of a declared size, with room for `capacity` items: no entry if
-- the items have size 0, or if there is neither an item nor room for one; otherwise a buffer, whose unused places are
-- those that no item takes. If there is no size, there is no forest.
pub data buffer_shows (size : Option ℕ) (p : Showing) (n capacity : ℕ) : Forest → Type 0 where
  without_size : {f : Forest} → size ≡ Some 0 → f ≡ Empty → buffer_shows size p n capacity f
  without_room : {s : ℕ} {f : Forest} → size ≡ Some s → n ≡ 0 → capacity ≡ 0 → f ≡ Empty
      → buffer_shows size p n capacity f
  with_room : {s : ℕ} {f : Forest} → size ≡ Some s → 0 < s → 0 < n + capacity → buffer_entry size p (capacity - n) f
      → buffer_shows size p n capacity f

-- The slice of a list that was cut in two anywhere: the slice of the front followed by that of the back.
pub data cut_shows {T : Type 0} (name : Key) (size : Option ℕ) (needs_drop : Bool) (p : T → Showing) (xs : List T)
    : Forest → Type 0 where
  is_cut : {f : Forest} (front back : List T) → front ++ back ≡ xs
      → Both (slice_shows name size needs_drop p front) (slice_shows name size needs_drop p back) f
      → cut_shows name size needs_drop p xs f

-- What a text of n bytes shows of its buffer, with room for `capacity` bytes: a unique entry of a pointer's bytes,
-- inside it an entry of the capacity, and inside that one of the text's bytes and one of the bytes that are left.
pub data text_shows (n capacity : ℕ) : Forest → Type 0 where
  is_text : {f : Forest}
      → Unique (codes "ptr") 8 (Inside (codes "capacity") capacity
      (Both (Inside (codes "u8") n Nothing) (Inside (codes "unused_capacity") (capacity - n) Nothing))) f
      → text_shows n capacity f

-- A field `data` for each item.
abbrev pub data_shows : {T : Type 0} → Option ℕ → (T → Showing) → List T → Showing
data_shows size p = each_shows (field_of (codes "data") size p)

-- A slice with an entry of its own: an inline entry with the item's name and the bytes of all items, with a field
-- `data` for each item inside it.
abbrev pub slice_of : {T : Type 0} → Key → Option ℕ → (T → Showing) → List T → Showing
slice_of name size p xs = Field name (size_product size (Some (length xs))) (data_shows size p xs)

-- The hash table of n items: no entry if n is 0, otherwise a unique entry with an entry of the table's bytes inside
-- it. An item of the table has 8 bytes.
abbrev pub table_shows : ℕ → Showing
table_shows n f =
    ((n ≡ 0) × Nothing f)
    ⊎ ((0 < n)
    × ((bytes : Option ℕ) × IsRawTableSize (Some 8) n bytes
    × Unique (codes "raw_table") 8 (Field (codes "alloc") bytes Nothing) f))
