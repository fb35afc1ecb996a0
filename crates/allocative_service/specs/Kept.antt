-- A value that a store or a cache keeps, and what is billed for it.
use Rattle.std.specs.Prelude.{◌≡◌, ℕ, ◌+◌, Option, option_map, unwrap_or}
use Rattle.allocative.specs.Forest.{Forest}
use Rattle.allocative_service.specs.Measured.{Declares}
use Rattle.allocative_service.specs.declared.kept.Kept.{Kept}
use Rattle.allocative_service.specs.declared.measure.Measure.{Measure}

-- The bytes that are billed for a kept value.
abbrev pub kept_bytes : {V : Type 0} → Kept V → ℕ
kept_bytes k = k.bytes

-- The bytes of the key of an entry, or those of another key if there is none.
abbrev pub key_bytes_in : {V : Type 0} → Option (Kept V) → ℕ → ℕ
key_bytes_in had key_bytes = unwrap_or (option_map (λ k. k.key_bytes) had) key_bytes

-- The value as it is kept under a key of so many bytes.
abbrev pub kept_as : {V : Type 0} → V → ℕ → ℕ → Kept V
kept_as v key_bytes value_bytes = record { value = v; bytes = key_bytes + value_bytes; key_bytes = key_bytes }

module _ {K V : Type 0} (key_size : Option ℕ) (key_shows : K → Forest → Type 0) (size : Option ℕ)
    (may_show : V → Forest → Type 0) where
  -- By the measure, these are the bytes that the key declares, and those of the key and the value together.
  pub record IsBill (m : Measure) (key : K) (v : V) (key_bytes bytes : ℕ) : Type 0 where
    pub value_bytes : ℕ
    pub of_key : Declares m key_size (key_shows key) key_bytes
    pub of_value : Declares m size (may_show v) value_bytes
    pub together : bytes ≡ key_bytes + value_bytes

  -- The kept value has the bytes that the key and the value declare.
  abbrev pub IsBilled : Measure → K → Kept V → Type 0
  IsBilled m key e = IsBill m key e.value e.key_bytes e.bytes
