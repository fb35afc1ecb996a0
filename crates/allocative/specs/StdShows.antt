-- What the types of the language and of `std` may show.
use Rattle.std.specs.Prelude.{ℕ, List, Option, None, Some, Result, Ok, Err, IsPermutation, codes}
use Rattle.std.specs.declared.ops.Bound.{Bound}
use Rattle.std.specs.declared.ops.Bound.TheVariants.{Included, Excluded, Unbounded}
use Rattle.allocative_described.specs.Sizes.{shared_inner_size}
use Rattle.allocative_graph.specs.Path.{Key}
use Rattle.allocative_graph.specs.Forest.{Forest}
use Rattle.allocative_graph.specs.Identity.{Identity}
use Rattle.allocative_graph.specs.Shows.{Showing, Nothing, Field, Shared, each_shows}

-- One inline entry of a declared name and size, with nothing inside it.
abbrev pub Leaf : Key → ℕ → Showing
Leaf name n = Field name (Some n) Nothing

-- The inside of the entry of an `Option`: nothing, or its value under `Some`.
abbrev pub option_inside : {T : Type 0} → Option ℕ → (T → Showing) → Option T → Showing
option_inside size p None = Nothing
option_inside size p (Some v) = Field (codes "Some") size (p v)

-- The inside of the entry of a `Result`: its value under `Ok`, or its error under `Err`.
abbrev pub result_inside : {T E : Type 0} → Option ℕ → Option ℕ → (T → Showing) → (E → Showing) → Result T E → Showing
result_inside ok_size err_size p q (Ok v) = Field (codes "Ok") ok_size (p v)
result_inside ok_size err_size p q (Err e) = Field (codes "Err") err_size (q e)

-- The inside of the entry of a `Bound`: its value under `Included` or `Excluded`, or nothing.
abbrev pub bound_inside : {T : Type 0} → Option ℕ → (T → Showing) → Bound T → Showing
bound_inside size p (Included v) = Field (codes "Included") size (p v)
bound_inside size p (Excluded v) = Field (codes "Excluded") size (p v)
bound_inside size p Unbounded = Nothing

-- The forests of some items, in any order.
abbrev pub in_any_order : {T : Type 0} → (T → Showing) → List T → Showing
in_any_order {T} p xs f = (ys : List T) × IsPermutation xs ys × each_shows p ys f

-- A pointer to a shared value of a declared size and alignment. Its content is an entry of the counts and the value,
-- or it has no content.
abbrev pub shared_inside : Key → Identity → Option ℕ → ℕ → Showing → Showing
shared_inside inner_name id size align p =
    Shared (codes "ptr") 8 id (Field inner_name (shared_inner_size size align) p)

-- A field `data` of a declared size, with what p says of some value inside it.
pub data some_value {T : Type 0} (size : Option ℕ) (p : T → Showing) : Forest → Type 0 where
  is_value : (x : T) {f : Forest} → Field (codes "data") size (p x) f → some_value size p f

-- What is inside the own entry of a cell or a lock: a field `data` with some value, or nothing if no value can be
-- had.
pub data cell_inside {T : Type 0} (size : Option ℕ) (p : T → Showing) : Forest → Type 0 where
  not_had : {f : Forest} → Nothing f → cell_inside size p f
  is_had : (x : T) {f : Forest} → Field (codes "data") size (p x) f → cell_inside size p f
