-- The model of a cache, and what its calls do.
use Rattle.std.specs.Prelude.{◌≡◌, ◌⊎◌, ℕ, ◌+◌, ◌-◌, ◌^◌, ◌<◌, ◌≤◌, Bool, Option, None, Some, List, [], ◌∷◌, ◌++◌}
use Rattle.std.specs.Prelude.{option_map, ⊤}
use denote.Param.Members.{Once}
use Rattle.std.specs.Borrow.{Fml, RattleType, MutBor, follows_so}
use Rattle.std.specs.Fn.{FnOnceReturnsAtMut}
use Rattle.std.specs.Map.{lookup, lookup_entry, lookup_key, remove_entry}
use Rattle.std.specs.Option.{unwrap_or}
use mathlib.Core.Option.{none}
use Rattle.allocative.specs.Forest.{Forest}
use Rattle.lru.specs.LruCache.{promoted}
use Rattle.allocative_graph.specs.declared.refusal.Refusal.TheVariants as refusal
use Rattle.allocative_service.specs.Measured.{MayRefuseMeasure}
use Rattle.allocative_service.specs.Book.{AreBilled, billed_sum}
use Rattle.allocative_service.specs.Kept.{IsBill, IsBilled, kept_bytes}
use Rattle.allocative_service.specs.declared.kept.Kept.{Kept}
use Rattle.allocative_service.specs.declared.measure.Measure.{Measure}
use Rattle.allocative_service.specs.declared.cache.error.Refused.{Refused}
use Rattle.allocative_service.specs.declared.cache.error.CacheError.{CacheError}
use Rattle.allocative_service.specs.declared.cache.error.CacheError.TheVariants.{TooLarge, NotMeasured, Memory}

-- ---- a cache
-- The keys with their kept values, the most recently used first.
abbrev pub Entries : Type 0 → Type 0 → Type 0
Entries K V = List (K × Kept V)

-- The sum of the bytes that are billed.
abbrev pub bytes_of : {K V : Type 0} → Entries K V → ℕ
bytes_of es = billed_sum kept_bytes es

-- The value under the key that passes the test.
abbrev pub value_at : {K V : Type 0} → (K → Bool) → Entries K V → Option V
value_at test es = option_map (λ k. k.value) (lookup test es)

-- The key that passes the test, with its value.
abbrev pub entry_at : {K V : Type 0} → (K → Bool) → Entries K V → Option (K × V)
entry_at test es = option_map (λ e. (e.0, e.1.value)) (lookup_entry test es)

-- The key that the list stores for this one: an equal key that is there already, or the key itself.
abbrev pub stored_key : {K V : Type 0} → (K → K → Bool) → K → Entries K V → K
stored_key eq key es = unwrap_or (lookup_key (eq key) es) key

-- The model of a cache: its entries, the bound on their bytes, and which bytes are counted.
pub record Bounded (K V : Type 0) : Type 0 where
  pub entries : Entries K V
  pub bound : ℕ
  pub measure : Measure

-- The cache with these entries, this bound and this measure.
abbrev pub bounded : {K V : Type 0} → Entries K V → ℕ → Measure → Bounded K V
bounded es n m = record { entries = es; bound = n; measure = m }

-- The cache c with these entries in place of its own.
abbrev pub with_entries : {K V : Type 0} → Bounded K V → Entries K V → Bounded K V
with_entries c es = bounded es c.bound c.measure

-- ---- the order
-- The cache after a use of the key that passes the test: its entry comes first, and the others stay in their order.
abbrev pub used : {K V : Type 0} → (K → Bool) → Bounded K V → Bounded K V
used test c = with_entries c (promoted test c.entries)

-- The cache without the entry of the key that passes the test.
abbrev pub without : {K V : Type 0} → (K → Bool) → Bounded K V → Bounded K V
without test c = with_entries c (remove_entry test c.entries)

-- What c borrows has this value once everything that was lent from it has been returned.
abbrev pub ends_as : (R : RattleType) → MutBor R.Denot → R.Denot → Fml
ends_as R c end = follows_so R R c.ghost_name none (λ _ _. ⊤) (λ n. n ≡ end)

-- ---- closures
-- One call of a closure that takes a key with its value and returns nothing: it goes from f to g.
abbrev pub step_of : {F K V : Type 0} → (F → K → V → Unit {0} → F → Type 0) → F → K → V → F → Type 0
step_of step f k v g = step f k v tt g

-- The closure may change v to w.
abbrev pub ChangesTo : {C V : Type 0} → Once C (MutBor V × Unit {0}) (Unit {0} × (MutBor V × Unit {0})) → C → V → V
    → Type 0
ChangesTo step change v w = FnOnceReturnsAtMut step change v tt w

-- ---- evicted entries
-- The first of the evicted entries has no room beside those that stay, or nothing was evicted.
abbrev pub IsNeeded : {K V : Type 0} → ℕ → Entries K V → Entries K V → Type 0
IsNeeded room stay [] = ⊤
IsNeeded room stay (e ∷ more) = room < bytes_of stay + e.1.bytes

-- Calls took the closure from f to g: exactly one with each of these entries, the last entry first.
abbrev pub HandsBack : {F K V : Type 0} → (F → K → V → F → Type 0) → F → Entries K V → F → Type 0
HandsBack step f [] g = f ≡ g
HandsBack {F} step f (e ∷ es) g = (h : F) × HandsBack step f es h × step h e.0 e.1.value g

-- The entries after are the most recently used of those before. No fewer could be evicted: the first of the evicted
-- ones has no room beside those that stay. The closure was called once with each of them.
pub record KeepsRecent {F K V : Type 0} (step : F → K → V → F → Type 0) (on_evict : F) (room : ℕ)
    (before after : Entries K V) : Type 0 where
  pub gone : Entries K V
  pub parts : before ≡ after ++ gone
  pub needed : IsNeeded room after gone
  pub last : F
  pub handed : HandsBack step on_evict gone last

module _ {K V : Type 0} (key_size : Option ℕ) (key_shows : K → Forest → Type 0) (size : Option ℕ)
    (may_show : V → Forest → Type 0) where
  -- By the measure, n is a bill of v under the key, of which the key is the one that the entries store.
  abbrev pub IsBillIn : (K → K → Bool) → Measure → Entries K V → K → V → ℕ → Type 0
  IsBillIn eq m es key v n = (k : ℕ) × IsBill key_size key_shows size may_show m (stored_key eq key es) v k n

  -- Why a cache refuses v under the key: a bill of them exceeds the bound; a key that it does not have, or v, could not
  -- be measured, as the measure says, or a bill fits no word; or a bill is within the bound and memory runs out.
  abbrev pub RefusesInsert : Bool → Bool → (K → K → Bool) → K → V → Bounded K V → CacheError → Type 0
  RefusesInsert key_strict is_strict eq key v c (TooLarge bytes most) =
      IsBillIn eq c.measure c.entries key v bytes × (most ≡ c.bound) × (c.bound < bytes)
  RefusesInsert key_strict is_strict eq key v c (NotMeasured e) =
      ((lookup (eq key) c.entries ≡ None) × MayRefuseMeasure c.measure key_strict key_size (key_shows key) e)
      ⊎ (MayRefuseMeasure c.measure is_strict size (may_show v) e
      ⊎ ((e ≡ refusal.TooLarge) × (n : ℕ) × IsBillIn eq c.measure c.entries key v n × (2 ^ 64 ≤ n)))
  RefusesInsert key_strict is_strict eq key v c Memory =
      (n : ℕ) × IsBillIn eq c.measure c.entries key v n × (n ≤ c.bound)

  -- ---- what the cache promises
  -- All bills together are at most `most`, and each is one of its key and its value.
  pub record AreKept (m : Measure) (es : Entries K V) (most : ℕ) : Type 0 where
    pub within : bytes_of es ≤ most
    pub measured : AreBilled (IsBilled key_size key_shows size may_show m) es

  -- All bills together are within the bound, and each is one of its key and its value.
  abbrev pub IsBounded : Bounded K V → Type 0
  IsBounded c = AreKept c.measure c.entries c.bound

  module _ {F : Type 0} (eq : K → K → Bool) (step : F → K → V → F → Type 0) where
    -- The key now has v, with a bill of the stored key and v, as the most recently used entry. The old entry of the key
    -- is gone. Of the others the least recently used are evicted, only as many as the bound requires, and the closure
    -- was called once with each.
    pub record Inserts (on_evict : F) (key : K) (v : V) (old new : Bounded K V) : Type 0 where
      pub entry : Kept V
      pub others : Entries K V
      pub value : entry.value ≡ v
      pub billed : IsBilled key_size key_shows size may_show old.measure (stored_key eq key old.entries) entry
      pub fits : entry.bytes + bytes_of others ≤ old.bound
      pub recent : KeepsRecent step on_evict (old.bound - entry.bytes) (remove_entry (eq key) old.entries) others
      pub is : new ≡ with_entries old ((stored_key eq key old.entries, entry) ∷ others)

    -- The value of the key that passes the test was changed as `changed` says, measured again and inserted.
    pub record Changes (on_evict : F) (test : K → Bool) (changed : V → V → Type 0) (old new : Bounded K V) : Type 0
      where
        pub key : K
        pub had : Kept V
        pub value : V
        pub found : lookup_entry test old.entries ≡ Some (key, had)
        pub changes : changed had.value value
        pub inserts : Inserts on_evict key value (without test old) new

  -- The value of the key that passes the test was changed as `changed` says, and inserting it again is refused. The
  -- refusal has the key and the changed value.
  abbrev pub RefusesChange : Bool → Bool → (K → K → Bool) → (K → Bool) → (V → V → Type 0) → Bounded K V
      → Refused K V CacheError → Type 0
  RefusesChange key_strict is_strict eq test changed old r = (had : Kept V)
      × (lookup_entry test old.entries ≡ Some (r.key, had)) × changed had.value r.value
      × RefusesInsert key_strict is_strict eq r.key r.value (without test old) r.error
