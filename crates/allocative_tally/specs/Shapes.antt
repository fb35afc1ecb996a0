-- What a tally shows, and when one forest shows another one with its entries merged: the entries of one place and one
-- mark as one entry.
use Rattle.std.specs.Prelude.{◌≡◌, ◌≤◌, ◌*◌, ◌-◌, ◌^◌, ◌+◌, ◌==◌, min, not, ℕ, Bool, true, false, cond, ⊤, Option, None}
use Rattle.std.specs.Prelude.{Some, codes}
use Rattle.allocative_graph.specs.Forest.{Forest, Empty, Inline, First, Again, followed_by, entry_of}
use Rattle.allocative_graph.specs.Forest.{Unique as unique_entry}
use Rattle.allocative_graph.specs.{Path.Key, Owned.direct, Shows.Showing, Collector.Kind, Collector.plus}
use Rattle.allocative.specs.Strict.{FitsWords}
use Rattle.allocative_tally.specs.declared.{tally.Sum.Sum, map.DataTally.DataTally}

-- No entry is shared.
abbrev pub IsPlain : Forest → Type 0
IsPlain Empty = ⊤
IsPlain (Inline k n inside after) = IsPlain inside × IsPlain after
IsPlain (unique_entry k n inside after) = IsPlain inside × IsPlain after
IsPlain (First k n i inside after) = ⊥
IsPlain (Again k n i after) = ⊥

-- Neither forest has a shared entry, and no collector tells them apart: each is the same after either, they have as
-- many bytes at the top, and if f exceeds no word, g exceeds none.
pub record Merged (f g : Forest) : Type 0 where
  pub plain : IsPlain f
  pub plain_merged : IsPlain g
  pub same : (b : Kind) → plus b f ≡ plus b g
  pub same_direct : direct f ≡ direct g
  pub fits : (open_visitors : ℕ) → FitsWords open_visitors f → FitsWords open_visitors g

-- What p shows is shown as q.
pub record ShownAs (p q : Showing) : Type 0 where
  pub up : (f : Forest) → p f → q f

-- Each entry of one place is unique, or inline with at least the bytes directly inside it, or inline with at most
-- those. Merging entries of one kind keeps what they own.
pub data Width : Type 0 where
  Unique : Width
  Wide : Width
  Narrow : Width

-- Whether entries of this kind are unique.
abbrev pub is_unique : Width → Bool
is_unique Unique = true
is_unique Wide = false
is_unique Narrow = false

-- An entry of n bytes with f inside it is of this kind.
abbrev pub HasWidth : Width → ℕ → Forest → Type 0
HasWidth Unique n f = ⊤
HasWidth Wide n f = direct f ≤ n
HasWidth Narrow n f = n ≤ direct f

-- What a tally shows, by its numbers: no entry; two shapes, one after another; the entry of a sum, with a shape inside
-- it.
pub data Shape : Type 0 where
  NoEntry : Shape
  Beside : Shape → Shape → Shape
  EntryAt : Width → Key → Sum → Shape → Shape

-- Whether a sum has an entry.
abbrev pub is_there : Sum → Bool
is_there sum = not (sum.count == 0)

-- The entry of what was counted at one place; none if nothing was.
abbrev pub entry_counted : Bool → Bool → Key → ℕ → Forest → Forest
entry_counted there unique k n f = cond there (entry_of unique k n f) Empty

-- The one forest of a shape.
abbrev pub forest_of : Shape → Forest
forest_of NoEntry = Empty
forest_of (Beside s t) = followed_by (forest_of s) (forest_of t)
forest_of (EntryAt width k sum s) = entry_counted (is_there sum) (is_unique width) k sum.bytes (forest_of s)

-- What holds of the numbers of a shape unless a count was given up: nothing is inside an entry that is not there, and
-- each entry is of its kind.
abbrev pub Holds : Shape → Type 0
Holds NoEntry = ⊤
Holds (Beside s t) = Holds s × Holds t
Holds (EntryAt width k sum s) = Holds s × (is_there sum ≡ false → (sum.bytes ≡ 0) × (forest_of s ≡ Empty))
    × HasWidth width sum.bytes (forest_of s)

-- The shape has no shared entry, and what is to hold holds.
abbrev pub IsRight : Shape → Type 0
IsRight s = IsPlain (forest_of s) × Holds s

-- Nothing was counted.
pub record IsNothing (s : Shape) : Type 0 where
  pub is_empty : forest_of s ≡ Empty
  pub holds : Holds s

-- The forest of a shape, and no other.
pub data shape_shows (s : Shape) : Forest → Type 0 where
  is_shape : {f : Forest} → f ≡ forest_of s → shape_shows s f

-- The bytes of so many entries of a declared size, up to the greatest word.
abbrev pub bytes_times : Option ℕ → ℕ → ℕ
bytes_times None n = 0
bytes_times (Some s) n = min (s * n) (2 ^ 64 - 1)

-- So many entries with some bytes together.
abbrev pub sum_of : ℕ → ℕ → Sum
sum_of n bytes = record { count = n; bytes = bytes }

-- So many entries of a declared size.
abbrev pub sum_times : Option ℕ → ℕ → Sum
sum_times size n = sum_of n (bytes_times size n)

-- So many inline entries of a declared size, with a shape inside them.
abbrev pub entries : Key → Option ℕ → ℕ → Shape → Shape
entries k size n s = EntryAt Wide k (sum_times size n) s

-- The fields `key` and `value` of so many pairs, by what so many keys and values show.
abbrev pub pairs_shape : Option ℕ → Option ℕ → (ℕ → Shape) → (ℕ → Shape) → ℕ → Shape
pairs_shape v w s t n = Beside (entries (codes "key") v n (s n)) (entries (codes "value") w n (t n))

-- The entries `data` of maps or sets whose items have at most 8 bytes, and of those whose items have more, by their
-- tally and what so many items show by theirs.
abbrev pub data_shape : {S : Type 0} → DataTally S → (S → ℕ → Shape) → Shape
data_shape t s =
    Beside (EntryAt Wide (codes "data") (sum_times (Some 8) t.small.places.buffers)
    (s t.small.values t.small.places.items))
    (EntryAt Narrow (codes "data") (sum_times (Some 8) t.large.places.buffers)
    (s t.large.values t.large.places.items))

-- So many inline entries with some bytes together, and nothing inside them.
abbrev pub bytes_shape : Key → ℕ → ℕ → Shape
bytes_shape k n bytes = EntryAt Wide k (sum_of n bytes) NoEntry

-- The items of so many slices: what they show, or one entry of their bytes.
abbrev pub items_shape : Bool → Key → ℕ → ℕ → Shape → Shape
items_shape true name n bytes s = s
items_shape false name n bytes s = bytes_shape name n bytes

-- So many pointers of a size, with entries under a key inside them, which have some bytes together.
abbrev pub pointers_shape : ℕ → Key → ℕ → ℕ → Shape
pointers_shape size k n bytes = EntryAt Unique (codes "ptr") (sum_times (Some size) n) (bytes_shape k n bytes)

-- So many texts, with buffers of some bytes together, of which so many are used and unused.
abbrev pub text_shape : ℕ → ℕ → ℕ → ℕ → Shape
text_shape n capacity used unused = EntryAt Unique (codes "ptr") (sum_times (Some 8) n)
    (EntryAt Wide (codes "capacity") (sum_of n capacity)
    (Beside (bytes_shape (codes "u8") n used) (bytes_shape (codes "unused_capacity") n unused)))

-- So many buffers under a key, with their items inside them, and entries under another key, of some bytes together.
abbrev pub buffer_shape : Key → Key → ℕ → Shape → ℕ → Shape
buffer_shape k other n items bytes =
    EntryAt Unique k (sum_times (Some 8) n) (Beside items (bytes_shape other n bytes))

-- So many pointers of 16 bytes to slices of so many items, with an entry of their bytes for each slice, and inside that
-- the items.
abbrev pub slices_shape : Key → Option ℕ → ℕ → ℕ → Shape → Shape
slices_shape name size n count items = EntryAt Unique (codes "ptr") (sum_times (Some 16) n)
    (EntryAt Wide name (sum_of n (bytes_times size count)) items)

-- So many hash tables, with buckets of some bytes together.
abbrev pub table_shape : ℕ → ℕ → Shape
table_shape n bytes = EntryAt Unique (codes "raw_table") (sum_times (Some 8) n) (bytes_shape (codes "alloc") n bytes)

-- The bytes of a shape's sums at its top.
abbrev pub top_bytes : Shape → ℕ
top_bytes NoEntry = 0
top_bytes (Beside s t) = top_bytes s + top_bytes t
top_bytes (EntryAt x k sum s) = sum.bytes
