-- Rounding up gives the least multiple that is not below, and a length has one raw table size.
use Rattle.std.proofs.Common.{◌≡◌, ℕ, ◌+◌, ◌-◌, ◌*◌, ◌/◌, ◌%◌, ◌<◌, ◌≤◌, inl, inr, arith, zero, suc, Option, None, Some}
use Rattle.std.proofs.Common.{MatchOption, ◌^◌, max, refl, ap, sym, ◌∙◌}
use Rattle.std.proofs.Math.Nat.{mod-eq_of_lt, mod_self, add-mul, pow-le-pow_right, pow-suc}
use Rattle.std.proofs.lemmas.Bool.{cases_lt}
use Rattle.std.proofs.lemmas.Nat.{div-add-mod', mod_below, mul-le}
use Rattle.allocative_described.specs.Sizes.{IsLeastMultiple, up, checked, IsLeastPowerOfTwo, size_sum, size_product}
use Rattle.allocative_described.specs.Sizes.{IsBucketCount, IsRawTableSize}
use Rattle.std.proofs.lemmas.Bool.Decides.{nat_tests}
use Rattle.std.specs.Int.{IsNextPowerOfTwo}

-- ---- rounding up
-- A multiple of a that is above q times a is above it by at least a.
next_multiple : (q a n k : ℕ) → n ≡ k * a → q * a < n → q * a + a ≤ n
next_multiple q a n k is above =
    elim (cases_lt q k) [
      | inl below ↦ omega (arith, mul-le (q + 1) a k a (omega arith) (omega arith), add-mul q 1 a)
      | inr beyond ↦ absurd (omega (arith, mul-le k a q a beyond (omega arith)))
    ]

-- Rounding up leaves a multiple of a as it is.
up_same : (x a : ℕ) → x % a ≡ 0 → up x a ≡ x
up_same x a none =
    let whole : a - 0 ≡ a = omega arith in
    rw (none, whole) (omega (arith, mod_self a))

-- Rounding up takes any other number to the next multiple.
up_next : (x a : ℕ) → 1 ≤ a → 0 < x % a → up x a ≡ (x / a + 1) * a
up_next x a positive some =
    let short : a - x % a < a = omega arith in
    omega (arith, mod-eq_of_lt short, div-add-mod' x a, mod_below x a positive, add-mul (x / a) 1 a)

-- If x is a multiple of a, rounding x up gives the least multiple of a that is not below x.
least_same : (x a : ℕ) → 1 ≤ a → x % a ≡ 0 → IsLeastMultiple x a (up x a)
least_same x a positive none =
    let same = up_same x a none in
    record {
      multiple = (x / a, omega (arith, div-add-mod' x a));
      not_below = omega arith;
      least = λ n m above. omega arith;
    }

-- If x is not a multiple of a, rounding x up gives the least multiple of a that is not below x.
least_next : (x a : ℕ) → 1 ≤ a → 0 < x % a → IsLeastMultiple x a (up x a)
least_next x a positive some =
    let next = up_next x a positive some in
    let split = div-add-mod' x a in
    record {
      multiple = (x / a + 1, next);
      not_below = omega (arith, mod_below x a positive, add-mul (x / a) 1 a);
      least = λ n m above. omega (arith, next_multiple (x / a) a n m.0 m.1 (omega arith), add-mul (x / a) 1 a);
    }

-- For each a from 1 on, rounding x up gives the least multiple of a that is not below x.
pub least_multiple : (x a : ℕ) → 1 ≤ a → IsLeastMultiple x a (up x a)
least_multiple x a positive =
    elim (cases_lt 0 (x % a)) [
      | inl some ↦ least_next x a positive some
      | inr none ↦ least_same x a positive (omega arith)
    ]

-- ---- least powers of two
-- If 2 ^ k is below x, a power of two that is not below x is at least the power after 2 ^ k.
next_power : (x k n j : ℕ) → n ≡ 2 ^ j → 2 ^ k < x → x ≤ n → 2 ^ suc k ≤ n
next_power x k n j is below above =
    elim (cases_lt k j) [
      | inl later ↦ omega (arith, pow-le-pow_right {n = 2} (omega arith) later)
      | inr earlier ↦ absurd (omega (arith, pow-le-pow_right {n = 2} (omega arith) earlier))
    ]

-- If x is above 2 ^ k and at most 2 ^ (k + 1), 2 ^ (k + 1) is the least power of two not below x.
pub least_power : (x k : ℕ) → 2 ^ k < x → x ≤ 2 ^ suc k → IsLeastPowerOfTwo x (2 ^ suc k)
least_power x k below above =
    record {
      power = (suc k, refl);
      not_below = above;
      least = λ n p h. next_power x k n p.0 p.1 below h;
    }

-- The contract of std implies the least power of two, for a number from 2 on.
pub least_power_from : (x n k : ℕ) → n ≡ 2 ^ k → x ≤ n → n / 2 < max 1 x → 2 ≤ x → IsLeastPowerOfTwo x n
least_power_from x n zero is above half many = absurd (omega arith)
least_power_from x n (suc k) is above half many =
    let below : 2 ^ k < x = omega (arith, pow-suc 2 k) in
    rw is (least_power x k below (omega arith))

-- A number that fits a word is checked to itself.
checked_same : (n : ℕ) → n < 2 ^ 64 → Some n ≡ checked n
checked_same n fits = grind (arith, nat_tests)

-- What std returns is the least power of two, for a number from 2 on.
pub power_answered : (x : ℕ) (answer : Option ℕ) → 2 ≤ x → x < 2 ^ 64 →
    MatchOption answer (2 ^ 63 < x) (IsNextPowerOfTwo x) →
    ((n : ℕ) → answer ≡ Some n → n < 2 ^ 64) → (n : ℕ) × IsLeastPowerOfTwo x n × (answer ≡ checked n)
power_answered x None many word above fits = (2 ^ 64, least_power x 63 above (omega arith), refl)
power_answered x (Some n) many word found fits =
    (n, least_power_from x n found.0.0 found.0.1 found.1 found.2 many, checked_same n (fits n refl))

-- ---- a length has one number of buckets
-- A number has only one least power of two that is not below it.
least_power_same : (x m n : ℕ) → IsLeastPowerOfTwo x m → IsLeastPowerOfTwo x n → m ≡ n
least_power_same x m n p q = omega (arith, p.least n q.power q.not_below, q.least m p.power p.not_below)

-- A length has only one number of buckets.
bucket_count_same : (len m n : ℕ) → IsBucketCount len m → IsBucketCount len n → m ≡ n
bucket_count_same len m n p q =
    elim (cases_lt 0 len) [
      | inr none ↦ omega (arith, p.empty (omega arith), q.empty (omega arith))
      | inl above ↦ elim (cases_lt len 4) [
        | inl below ↦ omega (arith, p.few above below, q.few above below)
        | inr many ↦ least_power_same len m n (p.many many) (q.many many)
      ]
    ]

-- The size of an item and a length determine the size of the raw table.
pub raw_table_size_same : (item : Option ℕ) (len : ℕ) (a b : Option ℕ) → IsRawTableSize item len a →
    IsRawTableSize item len b → a ≡ b
raw_table_size_same item len a b p q =
    let same = bucket_count_same len p.buckets q.buckets p.serve q.serve in
    p.product ∙ ap (λ n. size_product (size_sum item (Some 1)) (checked n)) same ∙ sym q.product
