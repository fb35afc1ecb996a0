-- What a value of a type that holds itself may show: one level, with the values of the next level named in it.
use Rattle.std.specs.Prelude.{ℕ, zero, suc, List, length, Option, Some, codes, vec_items, vec_capacity}
use Rattle.std.specs.Global.{Vec}
use Rattle.allocative_graph.specs.Path.{Key}
use Rattle.allocative_graph.specs.Forest.{Forest}
use Rattle.allocative_graph.specs.Shows.{Showing, Both, Inside, Unique, Field, each_shows}
use Rattle.allocative.specs.Bodies.{buffer_shows}
use Rattle.allocative.specs.StdShows.{option_inside, in_any_order}

-- One level of what a value shows, built from its parts: a value of T below it is a child in it, and what names no
-- such value is plain.
pub data Level (T : Type 0) : Type 1 where
  plain : Showing → Level T
  child : T → Level T
  both : Level T → Level T → Level T
  inside : Key → ℕ → Level T → Level T
  unique : Key → ℕ → Level T → Level T
  field : Key → Option ℕ → Level T → Level T
  buffer : Option ℕ → Level T → ℕ → ℕ → Level T
  optional : {A : Type 0} → Option ℕ → (A → Level T) → Option A → Level T
  each : {A : Type 0} → (A → Level T) → List A → Level T
  unordered : {A : Type 0} → (A → Level T) → List A → Level T

-- The forests of a level, where p gives the forests of its children.
abbrev pub level_shows : {T : Type 0} → (T → Showing) → Level T → Showing
level_shows p (plain s) = s
level_shows p (child x) = p x
level_shows p (both a b) = Both (level_shows p a) (level_shows p b)
level_shows p (inside k n a) = Inside k n (level_shows p a)
level_shows p (unique k n a) = Unique k n (level_shows p a)
level_shows p (field k size a) = Field k size (level_shows p a)
level_shows p (buffer size a n capacity) = buffer_shows size (level_shows p a) n capacity
level_shows p (optional size w o) = option_inside size (λ x. level_shows p (w x)) o
level_shows p (each w xs) = each_shows (λ x. level_shows p (w x)) xs
level_shows p (unordered w xs) = in_any_order (λ x. level_shows p (w x)) xs

-- The forests of a value of at most k levels, where w gives one level.
abbrev pub levels_shown : {T : Type 0} → (T → Level T) → ℕ → T → Showing
levels_shown w zero x = λ f. ⊥
levels_shown w (suc k) x = level_shows (levels_shown w k) (w x)

-- What a value that holds values of its own type may show, where w gives one level: the forests of any number of
-- levels.
pub record recursive {T : Type 0} (w : T → Level T) (x : T) (f : Forest) : Type 0 where
  pub depth : ℕ
  pub shown : levels_shown w depth x f

-- The level of a value that `out` opens, where v gives that of what it opens to: an enum by its variant.
unfoldable pub opened : {T A O : Type 0} → (A → O) → (O → Level T) → A → Level T
opened out v x = v (out x)

-- A value of one of two types: of types that hold each other, or of one of them and of one of the others.
pub data OneOf (A B : Type 0) : Type 0 where
  first : A → OneOf A B
  second : B → OneOf A B

-- The level of a value of one of two types, each with its own.
abbrev pub both_levels : {T A B : Type 0} → (A → Level T) → (B → Level T) → OneOf A B → Level T
both_levels f g (first x) = f x
both_levels f g (second y) = g y

-- What a `Vec` shows of its items, which need a drop and have the declared size s, not 0, where w gives the level of
-- an item.
abbrev pub vec_in : {T A : Type 0} → Option ℕ → (A → Level T) → Vec A → Level T
vec_in s w v =
    field (codes "Vec") (Some 24) (buffer s (each w (vec_items v)) (length (vec_items v)) (vec_capacity v))

-- The same of items of s bytes each.
abbrev pub vec_of : {T A : Type 0} → ℕ → (A → Level T) → Vec A → Level T
vec_of s w v = vec_in (Some s) w v

-- What a `Box` shows, where a is the level of its value.
abbrev pub box_of : {T : Type 0} → Level T → Level T
box_of a = field (codes "Box") (Some 8) (unique (codes "ptr") 8 a)

-- What an `Option` of a declared size shows of its value, which has the declared size s, where w gives the level of
-- the value.
abbrev pub option_in : {T A : Type 0} → Option ℕ → Option ℕ → (A → Level T) → Option A → Level T
option_in size s w o = field (codes "Option") size (optional s w o)

-- The same of an `Option` of a number of bytes, and of a value of s bytes.
abbrev pub option_of : {T A : Type 0} → ℕ → ℕ → (A → Level T) → Option A → Level T
option_of size s w o = option_in (Some size) (Some s) w o

-- What a pair of a map shows: a field for the key, which shows what p allows, and one for the value, which has the
-- declared size s and the level that w gives.
abbrev pub pair_in : {T K V : Type 0} → Option ℕ → (K → Showing) → Option ℕ → (V → Level T) → K × V → Level T
pair_in key_size p s w e = both (plain (Field (codes "key") key_size (p e.0))) (field (codes "value") s (w e.1))

-- The same of a value of s bytes.
abbrev pub pair_of : {T K V : Type 0} → Option ℕ → (K → Showing) → ℕ → (V → Level T) → K × V → Level T
pair_of key_size p s w e = pair_in key_size p (Some s) w e

-- What a `BTreeMap` shows of its entries, in the order of the keys, where w gives the level of an entry.
abbrev pub btree_map_of : {T E : Type 0} → (E → Level T) → List E → Level T
btree_map_of w es = field (codes "BTreeMap") (Some 24) (inside (codes "data") 8 (each w es))

-- What a `HashMap` shows of its entries, in any order, where w gives the level of an entry.
abbrev pub hash_map_of : {T E : Type 0} → (E → Level T) → List E → Level T
hash_map_of w es = field (codes "HashMap") (Some 48) (inside (codes "data") 8 (unordered w es))
