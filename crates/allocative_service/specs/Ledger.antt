-- What a ledger holds, and how its calls change it: a book of bytes by number.
use Rattle.std.specs.Prelude.{◌≡◌, ℕ, ◌+◌, ◌^◌, ◌≤◌, List, Option, Some, Result, Ok, Err, unwrap_or, IsSomeAnd}
use Rattle.std.specs.Prelude.{MatchOption}
use Rattle.std.specs.BTreeMap.{insert_entry, is_at}
use Rattle.std.specs.Map.{lookup, remove_entry}
use Rattle.std.specs.Option.{option_and_then}
use Rattle.std.specs.Ordering.{nat_cmp}
use Rattle.allocative_service.specs.Book.{AccountData, BookData, account_of, all_billed, billed_sum, with_entries}
use Rattle.allocative_service.specs.Book.{without_entry, SetsAccount}
use Rattle.allocative_service.specs.declared.book.rejection.Rejection.{Rejection}
use Rattle.allocative_service.specs.declared.book.rejection.Rejection.TheVariants.{NotThere, Taken, TooLarge}
use Rattle.allocative_service.specs.Rejected.{RejectsEntry, RejectsIn, RejectsThen}

-- ---- an account
-- The sum of the bytes of these entries.
abbrev pub sum_of : List (ℕ × ℕ) → ℕ
sum_of entries = billed_sum (λ n. n) entries

-- The bytes of the entry under the number.
abbrev pub bytes_at : ℕ → AccountData ℕ ℕ → Option ℕ
bytes_at number h = lookup (is_at (nat_cmp number)) h.entries

-- ---- all accounts
-- The bytes of all accounts together.
abbrev pub total_of : BookData ℕ ℕ → ℕ
total_of l = all_billed (λ n. n) l.accounts

-- The bytes of the tenant's entry under the number.
abbrev pub entry_of : List ℕ → ℕ → BookData ℕ ℕ → Option ℕ
entry_of tenant number l = option_and_then (bytes_at number) (account_of tenant l)

-- In the tenant's account, the number now has these bytes in place of `had`, and all bytes of that account together
-- are `total`. Nothing else changes.
abbrev pub Stores : List ℕ → ℕ → ℕ → Option ℕ → BookData ℕ ℕ → BookData ℕ ℕ → ℕ → Type 0
Stores tenant number bytes had old new total = IsSomeAnd (account_of tenant old) (λ h. (bytes_at number h ≡ had)
    × (total + unwrap_or had 0 ≡ sum_of h.entries + bytes)
    × SetsAccount tenant (with_entries (insert_entry nat_cmp h.entries number bytes) total h) old new)
    × (total_of new + unwrap_or had 0 ≡ total_of old + bytes)

-- In the tenant's account, the number now has these bytes in place of `had`, and all bytes of that account together
-- are `total`, within its limit. All accounts together are within the limit of the ledger.
abbrev pub Enters : List ℕ → ℕ → ℕ → Option ℕ → BookData ℕ ℕ → BookData ℕ ℕ → ℕ → Type 0
Enters tenant number bytes had old new total = Stores tenant number bytes had old new total
    × IsSomeAnd (account_of tenant old) (λ h. total ≤ h.limit) × (total_of new ≤ old.limit)

-- The number had these bytes in the tenant's account, and its entry is gone. The sum of the account, and that of all
-- accounts, is less by exactly these bytes. Nothing else changes.
abbrev pub Releases : List ℕ → ℕ → BookData ℕ ℕ → BookData ℕ ℕ → ℕ → Type 0
Releases tenant number old new bytes = IsSomeAnd (account_of tenant old) (λ h. (bytes_at number h ≡ Some bytes)
    × (sum_of (remove_entry (is_at (nat_cmp number)) h.entries) + bytes ≡ sum_of h.entries)
    × SetsAccount tenant (without_entry (is_at (nat_cmp number)) h) old new) × (total_of new + bytes ≡ total_of old)

-- ---- rejections
-- What becomes of a number without an entry is said by P. One with an entry is rejected as taken.
abbrev pub IsNew : ℕ → (Result ℕ Rejection → Type 0) → Option ℕ → Result ℕ Rejection → Type 0
IsNew number P had result = MatchOption had (P result) (λ _. result ≡ Err (Taken number))

-- What becomes of an entry is said by P of its bytes. A number without one is rejected as not there.
abbrev pub IsThere : ℕ → (ℕ → Result ℕ Rejection → Type 0) → Option ℕ → Result ℕ Rejection → Type 0
IsThere number P had result = MatchOption had (result ≡ Err (NotThere number)) (λ bytes. P bytes result)

-- Adding `more` bytes to those of an entry gives their sum, or is rejected: the sum does not fit a word.
abbrev pub Adds : ℕ → ℕ → Result ℕ Rejection → Type 0
Adds more had (Ok bytes) = bytes ≡ had + more
Adds more had (Err r) = (r ≡ TooLarge) × (2 ^ 64 ≤ had + more)

-- The ledger, which may have `most` bytes, rejects what P makes of the bytes under the tenant's number: there is no
-- account, P rejects them, or what P makes of them is not entered.
abbrev pub Rejects : List ℕ → ℕ → Option ℕ → (Option ℕ → Result ℕ Rejection → Type 0) → BookData ℕ ℕ → Rejection
    → Type 0
Rejects tenant number most P l = RejectsIn (λ h. RejectsThen (P (bytes_at number h))
    (RejectsEntry (total_of l) most (sum_of h.entries) h.limit (bytes_at number h))) (account_of tenant l)
