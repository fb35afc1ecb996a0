-- Keys and paths, their orders, and the hash of a key: FNV-1a of 64 bits.
use Rattle.std.specs.Prelude.{◌≡◌, ℕ, Bool, true, false, ◌&&◌, List, [], ◌∷◌, ◌++◌, map, ◌*◌, ◌%◌, ◌^◌, bit_xor, fold}
use Rattle.std.specs.Borrow.{Bor}
use Rattle.std.specs.declared.cmp.Ordering.TheVariants.{Less}
use Rattle.std.specs.declared.cmp.Ordering.{Ordering}
use Rattle.std.specs.Ordering.{nat_cmp, eq_by_cmp}
use Rattle.std.specs.Cmp.Lexicographic.{slice_cmp}

-- A key is the bytes of its text.
abbrev pub Key : Type 0
Key = List ℕ

-- A path is the keys from the root on; the root's own path is empty.
abbrev pub Path : Type 0
Path = List Key

-- The path whose keys are these texts of code.
abbrev pub texts : List (Bor (List ℕ)) → Path
texts ks = map (λ k. k.now) ks

-- Keys are ordered by their bytes.
abbrev pub key_cmp : Key → Key → Ordering
key_cmp = slice_cmp nat_cmp

-- A prefix of a path comes before it. Otherwise the first keys that differ decide.
abbrev pub path_cmp : Path → Path → Ordering
path_cmp = slice_cmp key_cmp

-- Whether two paths are equal.
abbrev pub is_same_path : Path → Path → Bool
is_same_path = eq_by_cmp path_cmp

-- Whether the second path is the first one with one more key.
abbrev pub is_one_below : Path → Path → Bool
is_one_below [] (k ∷ []) = true
is_one_below (k ∷ p) (l ∷ q) = eq_by_cmp key_cmp k l && is_one_below p q
is_one_below p q = false

-- The first list is a proper prefix of the second, or the first elements that differ are in the order R.
pub data ComesBefore {X : Type 0} (R : X → X → Ordering) (p q : List X) : Type 0 where
  longer : (k : X) (rest : List X) → q ≡ p ++ k ∷ rest → ComesBefore R p q
  parts : (common : List X) (k l : X) (r s : List X) → p ≡ common ++ k ∷ r → q ≡ common ++ l ∷ s → R k l ≡ Less
      → ComesBefore R p q

-- ---- the hash of a key's text
-- The hash after one more byte.
abbrev pub fnv_step : ℕ → ℕ → ℕ
fnv_step hash byte = (bit_xor hash byte * 0x100000001b3) % 2 ^ 64

-- The hash of some bytes.
abbrev pub fnv : List ℕ → ℕ
fnv bytes = fold fnv_step 0xcbf29ce484222325 bytes
