-- What a store keeps, and how its calls change it: a book of values by key.
use Rattle.std.specs.Prelude.{◌≡◌, ◌⊎◌, ℕ, ◌+◌, Bool, List, Option, None, Some, option_map, unwrap_or, Err, IsSomeAnd}
use Rattle.std.specs.declared.cmp.Ordering.{Ordering}
use Rattle.std.specs.BTreeMap.{insert_entry, is_at}
use Rattle.std.specs.Map.{lookup, lookup_key, set_value}
use Rattle.allocative.specs.Forest.{Forest}
use Rattle.allocative_service.specs.Book.{AccountData, BookData, account_of, billed_sum, bytes_in, SetsAccount}
use Rattle.allocative_service.specs.Book.{with_entries}
use Rattle.allocative_service.specs.Measured.{Declares, Measures}
use Rattle.allocative_service.specs.Rejected.{HasRoom, RejectsEntry, RejectsRoom, RejectsThen}
use Rattle.allocative_service.specs.declared.book.rejection.Rejection.{Rejection}
use Rattle.allocative_service.specs.declared.cache.error.Refused.{Refused}
use Rattle.allocative_service.specs.declared.kept.Kept.{Kept}
use Rattle.allocative_service.specs.Kept.{IsBilled, kept_bytes}

-- The account of one tenant's values.
abbrev pub Shelved : Type 0 → Type 0 → Type 0
Shelved K V = AccountData K (Kept V)

module _ {K V : Type 0} where
  -- The bytes of all keys and values of a shelf.
  abbrev pub sum_of : Shelved K V → ℕ
  sum_of h = billed_sum kept_bytes h.entries

  -- The value under the key that passes the test.
  abbrev pub value_at : (K → Bool) → Shelved K V → Option V
  value_at test h = option_map (λ e. e.value) (lookup test h.entries)

  -- The key that the shelf has under this one: an equal key that is there already, or the key itself.
  abbrev pub stored_key : (K → K → Ordering) → K → Shelved K V → K
  stored_key cmp key h = unwrap_or (lookup_key (is_at (cmp key)) h.entries) key

  -- The tenant's shelf is replaced by one of which P holds with the one before it. Nothing else changes.
  abbrev pub Replaces : List ℕ → (Shelved K V → Shelved K V → Type 0) → BookData K (Kept V) → BookData K (Kept V)
      → Type 0
  Replaces tenant P old new = IsSomeAnd (account_of tenant old) (λ before. (after : Shelved K V) × P before after
      × SetsAccount tenant after old new)

module _ {K V : Type 0} (key_size : Option ℕ) (key_shows : K → Forest → Type 0) (size : Option ℕ)
    (may_show : V → Forest → Type 0) where
  -- The key now has the value, with a bill of the stored key and the value, and the other entries are as they were.
  -- There was room for it in place of what the key had, where all shelves had `all` bytes and may have `most`.
  pub record PutsOnShelf (cmp : K → K → Ordering) (all most : ℕ) (key : K) (v : V) (old new : Shelved K V) : Type 0
    where
      pub entry : Kept V
      pub total : ℕ
      pub value : entry.value ≡ v
      pub billed : IsBilled key_size key_shows size may_show old.measure (stored_key cmp key old) entry
      pub room : HasRoom all (Some most) (sum_of old) old.limit
          (bytes_in kept_bytes (lookup (is_at (cmp key)) old.entries)) entry.bytes
      pub total_is : total + bytes_in kept_bytes (lookup (is_at (cmp key)) old.entries) ≡ sum_of old + entry.bytes
      pub is : new ≡ with_entries (insert_entry cmp old.entries key entry) total old

  -- Why a shelf refuses the value under the key, where all shelves have `all` bytes and may have `most`: a key that it
  -- does not have, or the value, could not be measured, or what the stored key and the value declare is not entered in
  -- place of what the key has.
  abbrev pub RefusesPut : Bool → Bool → (K → K → Ordering) → ℕ → ℕ → K → V → Shelved K V → Rejection → Type 0
  RefusesPut key_strict is_strict cmp all most key v h r =
      ((lookup (is_at (cmp key)) h.entries ≡ None) × Measures h.measure key_strict key_size (key_shows key) (Err r))
      ⊎ RejectsThen (Measures h.measure is_strict size (may_show v))
      (λ n s. (k : ℕ) × Declares h.measure key_size (key_shows (stored_key cmp key h)) k × RejectsEntry all (Some most)
      (sum_of h) h.limit (option_map kept_bytes (lookup (is_at (cmp key)) h.entries)) (k + n) s) r

module _ {K V : Type 0} (size : Option ℕ) (may_show : V → Forest → Type 0) where
  -- The value of the key that passes the test was changed as `changed` says, in its place, and has the bytes of its
  -- key and those that it now declares. The other entries are as they were.
  pub record KeepsChanged (test : K → Bool) (changed : V → V → Type 0) (old new : Shelved K V) : Type 0 where
    pub had : Kept V
    pub entry : Kept V
    pub value_bytes : ℕ
    pub total : ℕ
    pub found : lookup test old.entries ≡ Some had
    pub changes : changed had.value entry.value
    pub of_value : Declares old.measure size (may_show entry.value) value_bytes
    pub of_key : entry.key_bytes ≡ had.key_bytes
    pub together : entry.bytes ≡ had.key_bytes + value_bytes
    pub total_is : total + had.bytes ≡ sum_of old + entry.bytes
    pub is : new ≡ with_entries (set_value test old.entries entry) total old

  -- The value of the key that passes the test was changed as `changed` says, and is refused, where all shelves have
  -- `all` bytes: it could not be measured, or there is no room for what it declares with its key in place of what
  -- they had. The refusal has the key and the changed value.
  pub record RefusesChanged (is_strict : Bool) (test : K → Bool) (changed : V → V → Type 0) (all : ℕ)
      (h : Shelved K V) (r : Refused K V Rejection) : Type 0 where
    pub had : Kept V
    pub found : lookup test h.entries ≡ Some had
    pub has_key : lookup_key test h.entries ≡ Some r.key
    pub changes : changed had.value r.value
    pub refuses : RejectsThen (Measures h.measure is_strict size (may_show r.value))
        (λ n. RejectsRoom all None (sum_of h) h.limit had.bytes (had.key_bytes + n)) r.error
