-- What a type declares about itself, and how the declarations of parts go together.
use Rattle.std.specs.Prelude.{ℕ, List, Option, Some, Bool, false, max, ◌||◌}
use Rattle.allocative_described.specs.Sizes.{size_sum, size_max, size_up}

infixl 30 ◌with◌
infixl 30 ◌or◌
-- A name, a size in bytes or None if it does not fit a word, an alignment in bytes, and whether there is something to
-- drop.
pub record Declaration : Type 0 where
  pub name : List ℕ
  pub size : Option ℕ
  pub align : ℕ
  pub needs_drop : Bool

-- What a type declares: its name, size, alignment, and whether there is something to drop.
abbrev pub declaration : List ℕ → Option ℕ → ℕ → Bool → Declaration
declaration name size align drop = record { name = name; size = size; align = align; needs_drop = drop }

-- What a type of a known size declares.
abbrev pub declared : List ℕ → ℕ → ℕ → Bool → Declaration
declared name size align drop = declaration name (Some size) align drop

-- A struct without fields.
abbrev pub empty : List ℕ → Declaration
empty name = declared name 0 1 false

-- A struct with one field more.
abbrev pub ◌with◌ : Declaration → Declaration → Declaration
l with m = declaration l.name (size_sum l.size m.size) (max l.align m.align) (l.needs_drop || m.needs_drop)

-- Room for either of two, under the first one's name.
abbrev pub ◌or◌ : Declaration → Declaration → Declaration
l or m = declaration l.name (size_max l.size m.size) (max l.align m.align) (l.needs_drop || m.needs_drop)

-- The size rounded up to the alignment.
abbrev pub pad_to_align : Declaration → Declaration
pad_to_align l = declaration l.name (size_up l.size l.align) l.align l.needs_drop
