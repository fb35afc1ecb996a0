-- What types of other crates may show, in terms of what contracts see of them.
use Rattle.std.specs.Prelude.{ℕ, ◌-◌, ◌*◌, Bool, List, Option, codes, length}
use Rattle.either.specs.declared.Either.{Either}
use Rattle.either.specs.declared.Either.TheVariants.{Left, Right}
use Rattle.smallvec.specs.SmallVec.{SmallVec, IsSpilled}
use Rattle.slab.specs.Slab.{Slab, values, slab_len}
use Rattle.allocative_described.specs.Sizes.{checked}
use Rattle.allocative_graph.specs.Path.{Key}
use Rattle.allocative_graph.specs.Forest.{Forest}
use Rattle.allocative_graph.specs.Shows.{Showing, Nothing, Both, Unique, Field, each_shows, slice_shows}
use Rattle.allocative.specs.Bodies.{bytes_shown, buffer_shows, data_shows, table_shows}
use Rattle.allocative.specs.Runs.{field_of, pair_shows}

-- What is inside the own entry of an `Either` with parts of declared sizes: one field, named by the side that is
-- there.
abbrev pub either_inside : {L R : Type 0} → Option ℕ → (L → Showing) → Option ℕ → (R → Showing) → Either L R → Showing
either_inside s p t q (Left x) = Field (codes "Left") s (p x)
either_inside s p t q (Right y) = Field (codes "Right") t (q y)

-- What is inside the own entry of a cell that is set once: nothing, or a pointer to some value.
pub data once_inside {T : Type 0} (p : T → Showing) : Forest → Type 0 where
  is_not_set : {f : Forest} → Nothing f → once_inside p f
  is_set : (x : T) {f : Forest} → Unique (codes "ptr") 8 (p x) f → once_inside p f

-- What is inside the own entry of a small vector with n places of its own and items of a declared size: a field
-- `data` for each item, inside a pointer if the items are in an allocation.
pub data small_vec_inside {T : Type 0} (n : ℕ) (size : Option ℕ) (p : T → Showing) (v : SmallVec T) : Forest → Type 0
  where
    lies_inline : {f : Forest} → ¬ IsSpilled n v → data_shows size p v.items f → small_vec_inside n size p v f
    is_spilled : {f : Forest} → IsSpilled n v → Unique (codes "ptr") 8 (data_shows size p v.items) f
        → small_vec_inside n size p v f

-- What is inside the own entry of a slab with items of a declared name and size: the buffer of its values, in the
-- order of their keys.
abbrev pub slab_inside : {T : Type 0} → Key → Option ℕ → Bool → (T → Showing) → Slab T → Showing
slab_inside name size needs_drop p s =
    buffer_shows size (slice_shows name size needs_drop p (values s)) (slab_len s) s.capacity

-- The data of a container in insertion order: a unique entry with what p shows, and the entry of the bytes of so many
-- unused places for items of a declared size.
pub data index_data_shows (size : Option ℕ) (p : Showing) (unused : ℕ) : Forest → Type 0 where
  is_index_data : {f : Forest}
      → Unique (codes "data") 8 (Both p (bytes_shown (codes "unused_capacity") size unused)) f
      → index_data_shows size p unused f

-- What is inside the own entry of an `IndexMap` with keys, values and pairs of declared sizes, and so many unused
-- places.
abbrev pub index_map_inside : {K V : Type 0} → Option ℕ → (K → Showing) → Option ℕ → (V → Showing) → Option ℕ
    → List (K × V) → ℕ → Showing
index_map_inside s p t q pair es unused =
    Both (index_data_shows pair (each_shows (pair_shows s p t q) es) unused) (table_shows (length es))

-- What is inside the own entry of an `IndexSet` with values of a declared size, and so many unused places.
abbrev pub index_set_inside : {T : Type 0} → Option ℕ → (T → Showing) → List T → ℕ → Showing
index_set_inside s p xs unused =
    Both (index_data_shows s (each_shows (field_of (codes "value") s p) xs) unused) (table_shows (length xs))

-- What is inside the own entry of an `LruCache` with keys and values of declared sizes: a pointer with the fields of
-- each pair, in the order of the cache, and its table.
abbrev pub lru_cache_inside : {K V : Type 0} → Option ℕ → (K → Showing) → Option ℕ → (V → Showing) → List (K × V)
    → Showing
lru_cache_inside s p t q es =
    Both (Unique (codes "ptr") 8 (each_shows (pair_shows s p t q) es)) (table_shows (length es))

-- What is inside the own entry of a flame graph of so many paths: a pointer, with the bytes of a node for each path but
-- the root's.
abbrev pub graph_inside : ℕ → Showing
graph_inside paths = Unique (codes "ptr") 8 (Field (codes "Child") (checked ((paths - 1) * 56)) Nothing)
