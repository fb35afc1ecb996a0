-- Declared sizes have room for what is inside.
use Rattle.std.proofs.Common.{◌≤◌, ◌+◌, ℕ, suc, Option, Some, None, arith}
use Rattle.std.proofs.Common.{rules}
use Rattle.std.proofs.lemmas.{Bool.Decides.nat_tests}
use Rattle.allocative_described.specs.Sizes.{checked, up, size_sum, size_max, size_up}
use Rattle.allocative_tally.specs.{IsWithin, both_bounds}

-- Whatever a bound allows is within a declared size.
pub record HoldsBound (size w : Option ℕ) : Type 0 where
  pub room : (d : ℕ) → IsWithin d w → IsWithin d size

-- A size that is checked is the size or none.
pub room_checked : (m d : ℕ) → d ≤ m → IsWithin d (checked m)
room_checked m d h = search (rules, nat_tests)

-- A size holds itself.
pub holds_itself : {w : Option ℕ} → HoldsBound w w
holds_itself = record { room = λ d h. h }

-- A size holds what is not more.
pub holds_bytes : {m n : ℕ} → m ≤ n → HoldsBound (Some n) (Some m)
holds_bytes h = record { room = λ d i. omega (arith, h, i) }

-- Whatever is within nothing is within any size.
pub holds_nothing : (u : Option ℕ) → HoldsBound u (Some 0)
holds_nothing None = record { room = λ d h. tt }
holds_nothing (Some m) = record { room = λ d h. omega (arith, h) }

-- A size that is rounded up.
pub holds_up : (u : Option ℕ) (a : ℕ) {w : Option ℕ} → HoldsBound u w → HoldsBound (size_up u a) w
holds_up None a h = record { room = λ d i. tt }
holds_up (Some m) a h = record { room = λ d i. room_checked (up m a) d (omega (arith, h.room d i)) }

-- The first of two fields.
pub holds_first : (u v : Option ℕ) {w : Option ℕ} → HoldsBound u w → HoldsBound (size_sum u v) w
holds_first (Some m) (Some n) h = record { room = λ d i. room_checked (m + n) d (omega (arith, h.room d i)) }
holds_first u v h = record { room = λ d i. tt }

-- The fields behind a tag.
pub holds_second : (u v : Option ℕ) {w : Option ℕ} → HoldsBound v w → HoldsBound (size_sum u v) w
holds_second (Some m) (Some n) h = record { room = λ d i. room_checked (m + n) d (omega (arith, h.room d i)) }
holds_second u v h = record { room = λ d i. tt }

-- The first field.
pub holds_alone : (u : Option ℕ) → HoldsBound (size_sum (Some 0) u) u
holds_alone u = holds_second (Some 0) u holds_itself

-- The fields of one variant.
pub holds_first_of : (u v : Option ℕ) {w : Option ℕ} → HoldsBound u w → HoldsBound (size_max u v) w
holds_first_of (Some m) (Some n) h = record { room = λ d i. omega (arith, h.room d i) }
holds_first_of u v h = record { room = λ d i. tt }

-- The fields of a later variant.
pub holds_second_of : (u v : Option ℕ) {w : Option ℕ} → HoldsBound v w → HoldsBound (size_max u v) w
holds_second_of (Some m) (Some n) h = record { room = λ d i. omega (arith, h.room d i) }
holds_second_of u v h = record { room = λ d i. tt }

-- Two lists of fields.
pub holds_both : (u v w x : Option ℕ) → HoldsBound u w → HoldsBound v x → HoldsBound (size_sum u v) (both_bounds w x)
holds_both (Some m) (Some n) (Some k) (Some l) a b = record {
  room = λ d h. room_checked (m + n) d (omega (arith, h, a.room k (omega arith), b.room l (omega arith)));
}
holds_both (Some m) (Some n) None x a b = absurd (omega (arith, a.room (suc m) tt))
holds_both (Some m) (Some n) (Some k) None a b = absurd (omega (arith, b.room (suc n) tt))
holds_both u v w x a b = record { room = λ d h. tt }

-- Fields can be grouped either way.
pub holds_grouped : (u v w : Option ℕ) {size : Option ℕ} → HoldsBound size (both_bounds (both_bounds u v) w) →
    HoldsBound size (both_bounds u (both_bounds v w))
holds_grouped (Some m) (Some n) (Some k) a = record { room = λ d h. a.room d (omega (arith, h)) }
holds_grouped u v w a = a
