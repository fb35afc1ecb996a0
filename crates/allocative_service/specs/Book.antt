-- What a book of accounts holds, and how its calls change it.
use Rattle.std.specs.Prelude.{◌≡◌, ℕ, ◌-◌, ◌^◌, ◌<◌, ◌≤◌, All, Bool, List, [], ◌∷◌, ◌++◌, Option, None, Some, String}
use Rattle.std.specs.Prelude.{max, option_map, string_bytes, sum_by, unwrap_or, IsSomeAnd}
use Rattle.std.specs.BTreeMap.{insert_entry, is_at}
use Rattle.std.specs.Cmp.Lexicographic.{slice_cmp}
use Rattle.std.specs.Global.{Global}
use Rattle.std.specs.Map.{lookup, remove_entry, set_value, values_of}
use Rattle.std.specs.Ordering.{nat_cmp}
use Rattle.std.specs.String.{string_cmp}
use Rattle.allocative_service.specs.declared.book.Standing.{Standing}
use Rattle.allocative_service.specs.declared.measure.Measure.{Measure}

-- ---- an account
-- Which bytes are counted, a limit and a soft limit in bytes, the most bytes that there ever were, and the entries by
-- key, in the keys' order.
pub record AccountData (K E : Type 0) : Type 0 where
  pub measure : Measure
  pub limit : ℕ
  pub soft_limit : ℕ
  pub peak : ℕ
  pub entries : List (K × E)

-- The sum of the bytes of these entries.
abbrev pub billed_sum : {K E : Type 0} → (E → ℕ) → List (K × E) → ℕ
billed_sum billed entries = sum_by billed (values_of entries)

-- The bytes of an entry, or 0 if there is none.
abbrev pub bytes_in : {E : Type 0} → (E → ℕ) → Option E → ℕ
bytes_in billed had = unwrap_or (option_map billed had) 0

module _ {K E : Type 0} where
  -- An account with this measure, these limits, this peak and these entries.
  abbrev pub account_data : Measure → ℕ → ℕ → ℕ → List (K × E) → AccountData K E
  account_data measure limit soft_limit peak entries =
      record { measure = measure; limit = limit; soft_limit = soft_limit; peak = peak; entries = entries }

  -- An account with this measure and this limit, no soft limit and no entry.
  abbrev pub new_account : Measure → ℕ → AccountData K E
  new_account measure limit = account_data measure limit (2 ^ 64 - 1) 0 []

  -- The account with this limit.
  abbrev pub with_limit : ℕ → AccountData K E → AccountData K E
  with_limit limit h = record h { limit = limit }

  -- The account with this soft limit.
  abbrev pub with_soft_limit : ℕ → AccountData K E → AccountData K E
  with_soft_limit bytes h = record h { soft_limit = bytes }

  -- The account whose peak is the sum of its entries.
  abbrev pub with_peak_reset : (E → ℕ) → AccountData K E → AccountData K E
  with_peak_reset billed h = record h { peak = billed_sum billed h.entries }

  -- The account without the entry of the key that passes the test.
  abbrev pub without_entry : (K → Bool) → AccountData K E → AccountData K E
  without_entry test h = record h { entries = remove_entry test h.entries }

  -- The account with these entries, whose bytes are `total` together. Its peak is at least that.
  abbrev pub with_entries : List (K × E) → ℕ → AccountData K E → AccountData K E
  with_entries entries total h = record h { peak = max h.peak total; entries = entries }

  -- P holds of each key with its entry.
  abbrev pub AreBilled : (K → E → Type 0) → List (K × E) → Type 0
  AreBilled P entries = All (λ e. P e.0 e.1) entries

  -- These are the key and the bytes of the first of the entries with the most bytes: those before it have fewer, those
  -- after it no more.
  pub record IsLargest (billed : E → ℕ) (entries : List (K × E)) (key : K) (bytes : ℕ) : Type 0 where
    pub before : List (K × E)
    pub entry : E
    pub after : List (K × E)
    pub is : entries ≡ before ++ ((key, entry) ∷ after)
    pub has : billed entry ≡ bytes
    pub fewer : All (λ e. billed e.1 < bytes) before
    pub no_more : All (λ e. billed e.1 ≤ bytes) after

  -- The bytes are exactly the sum of the account's entries, and at most its peak.
  abbrev pub IsSummed : (E → ℕ) → ℕ → AccountData K E → Type 0
  IsSummed billed bytes h = (bytes ≡ billed_sum billed h.entries) × (bytes ≤ h.peak)

-- ---- all accounts
-- Whether a name is that of the tenant.
abbrev pub is_tenant : List ℕ → String Global → Bool
is_tenant tenant = is_at (λ k. slice_cmp nat_cmp tenant (string_bytes k))

-- The account of each tenant, in the order of their names, the limit on the bytes of all, and which bytes are counted.
pub record BookData (K E : Type 0) : Type 0 where
  pub accounts : List (String Global × AccountData K E)
  pub limit : ℕ
  pub measure : Measure

module _ {K E : Type 0} where
  -- The book with these accounts, this limit and this measure.
  abbrev pub book_data : List (String Global × AccountData K E) → ℕ → Measure → BookData K E
  book_data accounts limit measure = record { accounts = accounts; limit = limit; measure = measure }

  -- The book with these accounts in place of its own.
  abbrev pub with_accounts : List (String Global × AccountData K E) → BookData K E → BookData K E
  with_accounts accounts b = book_data accounts b.limit b.measure

  -- The sum of the bytes of all entries of these accounts.
  abbrev pub all_billed : (E → ℕ) → List (String Global × AccountData K E) → ℕ
  all_billed billed accounts = sum_by (λ h. billed_sum billed h.entries) (values_of accounts)

  -- The account of the tenant with this name.
  abbrev pub account_of : List ℕ → BookData K E → Option (AccountData K E)
  account_of tenant b = lookup (is_tenant tenant) b.accounts

  -- The tenant has a new account with this limit, where it had none. Nothing else changes.
  abbrev pub Opens : List ℕ → ℕ → BookData K E → BookData K E → Type 0
  Opens tenant limit old new = (account_of tenant old ≡ None) × (name : String Global) × (string_bytes name ≡ tenant)
      × (account_of tenant new ≡ Some (new_account old.measure limit))
      × (new ≡ with_accounts (insert_entry string_cmp old.accounts name (new_account old.measure limit)) old)

  -- The tenant, which has an account, has this one in its place. Nothing else changes.
  abbrev pub SetsAccount : List ℕ → AccountData K E → BookData K E → BookData K E → Type 0
  SetsAccount tenant now old new = (account_of tenant new ≡ Some now)
      × (new ≡ with_accounts (set_value (is_tenant tenant) old.accounts now) old)

  -- The tenant has an account, which is now what f makes of it. Nothing else changes.
  abbrev pub MapsAccount : List ℕ → (AccountData K E → AccountData K E) → BookData K E → BookData K E → Type 0
  MapsAccount tenant f old new = IsSomeAnd (account_of tenant old) (λ before. SetsAccount tenant (f before) old new)

  -- The standing has the bytes of the tenant's account, what of them exceeds its limit, and what of the bytes of all
  -- accounts exceeds the limit of the book.
  abbrev pub StandsAt : (E → ℕ) → List ℕ → BookData K E → Standing → Type 0
  StandsAt billed tenant b s = IsSomeAnd (account_of tenant b) (λ h. (s.bytes ≡ billed_sum billed h.entries)
      × (s.excess ≡ billed_sum billed h.entries - h.limit)) × (s.ledger_excess ≡ all_billed billed b.accounts - b.limit)
