-- Identities of shared values, their order, and their makers.
use Rattle.std.specs.Prelude.{ℕ, Bool, ◌+◌, ◌-◌, ◌^◌, ◌==◌, cond, Option, Some, None}
use Rattle.std.specs.declared.cmp.Ordering.{Ordering}
use Rattle.std.specs.Ordering.{nat_cmp, eq_by_cmp, ordering_then}
use Rattle.std.specs.FinSet.{FinSet}

-- The maker that gave the number, and the number.
pub record Identity : Type 0 where
  pub maker : ℕ
  pub number : ℕ

-- Identities are ordered by their makers, and by their numbers if the makers are equal.
abbrev pub identity_cmp : Identity → Identity → Ordering
identity_cmp i j = ordering_then (nat_cmp i.maker j.maker) (nat_cmp i.number j.number)

-- Whether two identities are equal.
abbrev pub is_same_identity : Identity → Identity → Bool
is_same_identity = eq_by_cmp identity_cmp

-- A finite set of identities.
abbrev pub Identities : Type 0
Identities = FinSet identity_cmp

-- ---- shared values and makers
-- A maker of identities: the maker that its identities have, and the number of the next one, or None after the last.
pub record Maker : Type 0 where
  pub maker : ℕ
  pub next : Option ℕ

-- The number after n, or None after the greatest number of 64 bits.
abbrev pub number_after : ℕ → Option ℕ
number_after n = cond (n == 2 ^ 64 - 1) None (Some (n + 1))

-- A shared value: the value, and the identity that all its owners have.
pub record Shared (T : Type 0) : Type 0 where
  pub value : T
  pub id : Identity
