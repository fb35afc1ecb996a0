-- Why data is not admitted.
use Rattle.std.specs.Prelude.{◌≡◌, ◌⊎◌, ℕ, ◌+◌, ◌^◌, ◌<◌, ◌≤◌, Bool, false, true, Option, Some, None, IsSome, IfSome}
use Rattle.std.specs.Prelude.{OnSome, unwrap_or, Result, Ok, Err}
use Rattle.allocative_service.specs.declared.book.rejection.Rejection.{Rejection}
use Rattle.allocative_service.specs.declared.book.rejection.Rejection.TheVariants.{HasAccount, LedgerFull, NoAccount}
use Rattle.allocative_service.specs.declared.book.rejection.Rejection.TheVariants.{NotKept, OverBudget, TooLarge}

-- Whether a limit is the cause.
abbrev pub is_limit : Rejection → Bool
is_limit (OverBudget _ _) = true
is_limit (LedgerFull _ _) = true
is_limit _ = false

-- The rejection has the requested bytes and the limit that they exceed.
abbrev pub IsOverBudget : ℕ → ℕ → Rejection → Type 0
IsOverBudget bytes limit (OverBudget b l) = (b ≡ bytes) × (l ≡ limit) × (limit < bytes)
IsOverBudget bytes limit _ = ⊥

-- A limit of the whole ledger is rejected: the bytes of all accounts exceed it, as the rejection says.
abbrev pub IsLedgerFull : ℕ → ℕ → Rejection → Type 0
IsLedgerFull bytes limit (LedgerFull b l) = (b ≡ bytes) × (l ≡ limit) × (limit < bytes)
IsLedgerFull bytes limit _ = ⊥

-- P rejects, or it gives bytes that Q rejects.
abbrev pub RejectsThen : (Result ℕ Rejection → Type 0) → (ℕ → Rejection → Type 0) → Rejection → Type 0
RejectsThen P Q r = P (Err r) ⊎ ((bytes : ℕ) × P (Ok bytes) × Q bytes r)

-- Replacing the `had` bytes of one entry by `bytes` is rejected, where the account has `sum` bytes and may have
-- `limit`, and all accounts have `all` bytes, by the first of these that holds: the new sum of all accounts does not
-- fit a word, and if all may have `most`, that of the account exceeds its limit, that of all accounts exceeds `most`.
abbrev pub RejectsRoom : ℕ → Option ℕ → ℕ → ℕ → ℕ → ℕ → Rejection → Type 0
RejectsRoom all most sum limit had bytes TooLarge = 2 ^ 64 + had ≤ all + bytes
RejectsRoom all (Some most) sum limit had bytes (OverBudget b l) =
    (all + bytes < 2 ^ 64 + had) × (b + had ≡ sum + bytes) × (l ≡ limit) × (limit < b)
RejectsRoom all (Some most) sum limit had bytes (LedgerFull b l) = (all + bytes < 2 ^ 64 + had)
    × (sum + bytes ≤ limit + had) × (b + had ≡ all + bytes) × (l ≡ most) × (most < b)
RejectsRoom all most sum limit had bytes _ = ⊥

-- There is room for `bytes` in place of the `had` bytes of one entry: the new sum of all accounts fits a word, and if
-- all may have `most`, neither limit is exceeded.
pub record HasRoom (all : ℕ) (most : Option ℕ) (sum limit had bytes : ℕ) : Type 0 where
  pub fits : all + bytes < 2 ^ 64 + had
  pub within : OnSome most (sum + bytes ≤ limit + had)
  pub all_within : IfSome most (λ m. all + bytes ≤ m + had)

-- Entering `bytes` for an entry that has `had`, if any, is rejected: there is no room. Or there is, it has none, and
-- memory runs out.
abbrev pub RejectsEntry : ℕ → Option ℕ → ℕ → ℕ → Option ℕ → ℕ → Rejection → Type 0
RejectsEntry all most sum limit had bytes r = RejectsRoom all most sum limit (unwrap_or had 0) bytes r
    ⊎ ((r ≡ NotKept) × (had ≡ None) × HasRoom all most sum limit (unwrap_or had 0) bytes)

-- The tenant has no account, as the rejection says, or the rejection of its account is one that P allows.
abbrev pub RejectsIn : {A : Type 0} → (A → Rejection → Type 0) → Option A → Rejection → Type 0
RejectsIn P None r = r ≡ NoAccount
RejectsIn P (Some h) r = P h r

-- The tenant already has an account, as the rejection says, or it has none and memory runs out.
abbrev pub RejectsOpening : {A : Type 0} → Option A → Rejection → Type 0
RejectsOpening had HasAccount = IsSome had
RejectsOpening had NotKept = had ≡ None
RejectsOpening had _ = ⊥
