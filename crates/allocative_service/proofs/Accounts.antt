-- The accounts of a book after one of them has changed.
use Rattle.std.proofs.Common.{◌≡◌, ℕ, ◌+◌, ◌≤◌, false, List, Option, Some, None, refl, arith, string_bytes, String}
use Rattle.std.proofs.Common.{Global, true, option_map, Bool}
use Rattle.allocative_service.specs.Book.{AccountData, all_billed, billed_sum}
use Rattle.std.specs.BTreeMap.{is_at, BTreeMap, get_by_text, insert_entry}
use Rattle.std.specs.Map.{lookup, keys_of, set_value, values_of}
use Rattle.std.specs.List.Sorted.{IsStrictlySortedBy}
use Rattle.std.specs.List.{sum_by}
use Rattle.std.specs.Option.{is_some, unwrap_or}
use Rattle.std.specs.String.{string_cmp, string_cmp_total}
use Rattle.std.proofs.lemmas.Map.Entries.{sum_by-insert_entry, sum_by-remove_entry, sum_by-set_value}
use Rattle.std.proofs.lemmas.Map.Steps.{set_value_same}
use Rattle.std.proofs.lemmas.Map.Text.{text_keys}

-- ---- an account that is opened
module _ {A : Type 0} where
  -- A new account without bytes leaves the sum as it is.
  pub sum_by-opened : (f : A → ℕ) (name : String Global) (now : A) (old : BTreeMap (String Global) A) →
      is_some (get_by_text old (string_bytes name)) ≡ false → f now ≡ 0 →
      IsStrictlySortedBy string_cmp (keys_of old.entries) →
      sum_by f (values_of (insert_entry string_cmp old.entries name now)) ≡ sum_by f (values_of old.entries)
  sum_by-opened f name now old free empty sorted =
      let here : lookup (is_at (string_cmp name)) old.entries ≡ None = none_where _ free in
      let sum = rw here at (sum_by-insert_entry f string_cmp_total old.entries name now sorted) in
      omega (arith, sum, empty)
    where
      none_where : (o : Option A) → is_some o ≡ false → o ≡ None
      none_where None h = refl
      none_where (Some x) h = absurd cc

-- The lemmas on all accounts after one was opened.
pub ruleset opening = (sum_by-opened, text_keys)

-- ---- what `grind` finds after a write or a removal
-- After one of them is written, the sum of all is that of the others and of what was written.
pub sum_by-written : {K X : Type 0} (f : X → ℕ) (test : K → Bool) (es : List (K × X)) (now : X) →
    is_some (lookup test es) ≡ true →
    sum_by f (values_of (set_value test es now)) + unwrap_or (option_map f (lookup test es)) 0
    ≡ sum_by f (values_of es) + f now
sum_by-written f test es now some = (elim (lookup test es) as (λ o. lookup test es ≡ o → is_some o ≡ true →
    sum_by f (values_of (set_value test es now)) + unwrap_or (option_map f o) 0 ≡ sum_by f (values_of es) + f now) [
      | None ↦ λ e s. absurd cc
      | Some h ↦ λ e s. sum_by-set_value f test es h now e
    ]) refl some

-- The bytes of an account are part of the sum.
pub account_within : {K E : Type 0} (billed : E → ℕ) (test : String Global → Bool)
    (es : List (String Global × AccountData K E)) → (lookup test es ≡ lookup test es)
    × (unwrap_or (option_map (λ h. billed_sum billed h.entries) (lookup test es)) 0 ≤ all_billed billed es)
account_within billed test es = (refl, omega (arith, sum_by-remove_entry (λ h. billed_sum billed h.entries) test es))

-- The lemmas on all accounts after one of them was written or removed.
pub ruleset accounts = (sum_by-written, sum_by-remove_entry, account_within, set_value_same, text_keys)
