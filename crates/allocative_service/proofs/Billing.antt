-- The bills of an account's entries after each change of them.
use Rattle.std.proofs.Common.{All, ◌≡◌, ℕ, ◌+◌, ◌≤◌, Bool, true, false, List, [], ◌∷◌, Option, Some, None, arith, cond}
use Rattle.std.proofs.Common.{inl, inr, map-id, option_map, refl, sym, subst, unwrap_or}
use Rattle.allocative.specs.Forest.{Forest}
use Rattle.std.specs.BTreeMap.{is_at, insert_entry}
use Rattle.std.specs.Cmp.{IsTotalOrder, nat_cmp_total}
use Rattle.std.specs.List.Sorted.{IsStrictlySortedBy}
use Rattle.std.specs.Map.{keys_of, lookup, lookup_key, remove_entry, set_value}
use Rattle.std.specs.Ordering.{is_eq, match_ordering, nat_cmp}
use Rattle.std.specs.declared.cmp.Ordering.{Ordering}
use Rattle.std.specs.declared.cmp.Ordering.TheVariants.{Equal, Greater, Less}
use Rattle.std.proofs.lemmas.Iterator.Adapters.{option_map_id}
use Rattle.std.proofs.lemmas.List.Elements.{All-cons, All-head, All-nil, All-tail}
use Rattle.std.proofs.lemmas.Map.{lookup-none}
use Rattle.std.proofs.lemmas.Map.Entries.{none_below_head, sum_by-insert_entry, sum_by-remove_entry}
use Rattle.std.proofs.lemmas.Map.Keys.{sorted_tail}
use Rattle.std.proofs.lemmas.Map.Views.{All-map-remove_entry}
use Rattle.std.proofs.lemmas.Option.{same_Some}
use Rattle.allocative_service.specs.declared.book.rejection.Rejection.{Rejection}
use Rattle.allocative_service.specs.declared.kept.Kept.{Kept}
use Rattle.allocative_service.specs.declared.measure.Measure.{Measure}
use Rattle.allocative_service.specs.Kept.{IsBilled, key_bytes_in, kept_bytes}
use Rattle.allocative_service.specs.Ledger.{sum_of}
use Rattle.allocative_service.specs.Measured.{Declares, Measures}
use Rattle.allocative_service.specs.Rejected.{HasRoom, RejectsEntry, RejectsRoom, RejectsThen}
use Rattle.allocative_service.specs.Store.{RefusesPut}
use Rattle.allocative_service.proofs.Accounts.{sum_by-written}
use Rattle.allocative_service.specs.Book.{AccountData, AreBilled, billed_sum, bytes_in}

-- No key is found if no entry is.
pub key_none : {K E : Type 0} (test : K → Bool) (es : List (K × E)) → lookup test es ≡ None → lookup_key test es ≡ None
key_none test [] none = refl
key_none test (e ∷ es) none = grind (arith, key_none test es)

module _ {K E : Type 0} (P : K → E → Type 0) where
  -- What holds of a key with its entry.
  abbrev Billed : K × E → Type 0
  Billed e = P e.0 e.1

  -- The entries that are left without a key are billed as before.
  pub billed-remove : (test : K → Bool) (es : List (K × E)) → AreBilled P es → AreBilled P (remove_entry test es)
  billed-remove test es h = subst (All Billed) (map-id (remove_entry test es))
      (All-map-remove_entry test (λ e. e) Billed es (subst (All Billed) (sym (map-id es)) h))

  -- An entry that is found is billed with the key that it is stored under.
  pub billed-found : (test : K → Bool) (es : List (K × E)) (key : K) (e : E) → AreBilled P es →
      Some e ≡ lookup test es → P (unwrap_or (lookup_key test es) key) e
  billed-found test [] key e h found = absurd cc
  billed-found test (f ∷ es) key e h found =
      by (test f.0) (billed-found test es key e (All-tail Billed f es h)) found
    where
      by : (b : Bool) → (Some e ≡ lookup test es → P (unwrap_or (lookup_key test es) key) e) →
          Some e ≡ cond b (Some f.1) (lookup test es) → P (unwrap_or (cond b (Some f.0) (lookup_key test es)) key) e
      by true rest is = rw (same_Some e f.1 is) (All-head Billed f es h)
      by false rest is = rest is

  -- The entries are billed after one was written over another that has the same key, if it is billed with that.
  pub billed-set : (test : K → Bool) (es : List (K × E)) (had w : E) → lookup test es ≡ Some had →
      ((k : K) → P k had → P k w) → AreBilled P es → AreBilled P (set_value test es w)
  billed-set test [] had w found as_had h = absurd cc
  billed-set test (e ∷ es) had w found as_had h =
      by (test e.0) (λ there. billed-set test es had w there as_had (All-tail Billed e es h)) found
    where
      by : (b : Bool) → (lookup test es ≡ Some had → AreBilled P (set_value test es w)) →
          cond b (Some e.1) (lookup test es) ≡ Some had → AreBilled P (cond b ((e.0, w) ∷ es) (e ∷ set_value test es w))
      by true rest is = All-cons Billed (e.0, w) es (as_had e.0 (rw (← same_Some e.1 had is) (All-head Billed e es h)))
          (All-tail Billed e es h)
      by false rest is = All-cons Billed e (set_value test es w) (All-head Billed e es h) (rest is)

  -- The entries are billed after one was put, if it is billed with the key that it is then under.
  pub billed-insert : {cmp : K → K → Ordering} → IsTotalOrder cmp → (es : List (K × E)) (key : K) (w : E) →
      IsStrictlySortedBy cmp (keys_of es) → P (unwrap_or (lookup_key (is_at (cmp key)) es) key) w → AreBilled P es →
      AreBilled P (insert_entry cmp es key w)
  billed-insert total [] key w sorted is h = All-cons Billed (key, w) [] is (All-nil Billed)
  billed-insert {cmp} total (e ∷ es) key w sorted is h =
      let none : cmp key e.0 ≡ Less → lookup_key (is_at (cmp key)) (e ∷ es) ≡ None =
      λ less. key_none (is_at (cmp key)) (e ∷ es)
      (lookup-none (is_at (cmp key)) (e ∷ es) (none_below_head total key e es sorted less)) in
      by (cmp key e.0) (λ less. rw (none less) at is)
      (λ put. billed-insert total es key w (sorted_tail cmp e.0 (keys_of es) sorted) put (All-tail Billed e es h)) is
    where
      by : (r : Ordering) → (r ≡ Less → P key w) →
          (P (unwrap_or (lookup_key (is_at (cmp key)) es) key) w → AreBilled P (insert_entry cmp es key w)) →
          P (unwrap_or (cond (is_eq r) (Some e.0) (lookup_key (is_at (cmp key)) es)) key) w →
          AreBilled P (match_ordering r ((key, w) ∷ e ∷ es) ((e.0, w) ∷ es) (e ∷ insert_entry cmp es key w))
      by Less new rest put = All-cons Billed (key, w) (e ∷ es) (new refl) h
      by Equal new rest put = All-cons Billed (e.0, w) es put (All-tail Billed e es h)
      by Greater new rest put = All-cons Billed e (insert_entry cmp es key w) (All-head Billed e es h) (rest put)

module _ {K E : Type 0} (test : K → Bool) where
  -- What is found under a key that has an entry is what was written there.
  pub lookup_written : (es : List (K × E)) (had w : E) → lookup test es ≡ Some had →
      lookup test (set_value test es w) ≡ Some w
  lookup_written [] had w found = absurd cc
  lookup_written (e ∷ es) had w found = grind (arith, lookup_written es had w)

  -- Writing over an entry changes no key.
  pub key_written : (es : List (K × E)) (w : E) → lookup_key test (set_value test es w) ≡ lookup_key test es
  key_written [] w = refl
  key_written (e ∷ es) w = grind (arith, key_written es w)

  -- Without a key it does not matter what was written there.
  pub removed_written : (es : List (K × E)) (w : E) → remove_entry test (set_value test es w) ≡ remove_entry test es
  removed_written [] w = refl
  removed_written (e ∷ es) w = grind (arith, removed_written es w)

module _ {K E : Type 0} (billed : E → ℕ) (test : K → Bool) (es : List (K × E)) where
  -- The bytes of an entry are part of those of all.
  pub entry_within : (lookup test es ≡ lookup test es) × (bytes_in billed (lookup test es) ≤ billed_sum billed es)
  entry_within = (refl, omega (arith, sum_by-remove_entry billed test es))

  -- The bytes of an entry that is removed, and those of the others, are the bytes of all.
  pub removed_sum : (e : E) → Some e ≡ lookup test es →
      billed_sum billed (remove_entry test es) + billed e ≡ billed_sum billed es
  removed_sum e is = rw (← is) at (sum_by-remove_entry billed test es)

  -- The bytes of an entry that is found are part of those of all.
  pub found_within : (e : E) → Some e ≡ lookup test es → billed e ≤ billed_sum billed es
  found_within e is = omega (arith, removed_sum e is)

-- An insertion adds the bytes of the entry to the sum, and takes off those that it had.
pub sum_of-insert_entry : (number bytes : ℕ) (entries : List (ℕ × ℕ)) → IsStrictlySortedBy nat_cmp (keys_of entries) →
    sum_of (insert_entry nat_cmp entries number bytes) + unwrap_or (lookup (is_at (nat_cmp number)) entries) 0
    ≡ sum_of entries + bytes
sum_of-insert_entry number bytes entries sorted =
    rw option_map_id at (sum_by-insert_entry (λ n. n) nat_cmp_total entries number bytes sorted)

-- The bytes under a number are part of the sum.
pub number_within : (test : ℕ → Bool) (entries : List (ℕ × ℕ)) →
    (lookup test entries ≡ lookup test entries) × (unwrap_or (lookup test entries) 0 ≤ sum_of entries)
number_within test entries = rw option_map_id at (entry_within (λ n. n) test entries)

-- The lemmas on the bytes that are put under a number.
pub ruleset puts = (sum_of-insert_entry, number_within)

-- The lemmas on an account after an entry was removed.
pub ruleset removing = (sum_by-remove_entry, billed-remove, entry_within, found_within, removed_sum)

-- The lemmas on an account after an entry was put.
pub ruleset putting = (sum_by-insert_entry, billed-insert, entry_within)

-- The lemmas on an account after an entry was changed.
pub ruleset changing = (
  sum_by-written,
  sum_by-remove_entry,
  billed-set,
  billed-remove,
  lookup_written,
  key_written,
  removed_written,
  entry_within,
)

-- ---- a value that is put
module _ {K V : Type 0} (key_size : Option ℕ) (key_shows : K → Forest → Type 0) (size : Option ℕ)
    (may_show : V → Forest → Type 0) where
  module _ (m : Measure) (test : K → Bool) (es : List (K × Kept V)) (key : K)
      (h : AreBilled (IsBilled key_size key_shows size may_show m) es) where
    -- A key that is stored declares the bytes that its entry says, and another those that it was measured with.
    pub key_billed : (k : ℕ) → (lookup test es ≡ None → Declares m key_size (key_shows key) k) →
        Declares m key_size (key_shows (unwrap_or (lookup_key test es) key)) (key_bytes_in (lookup test es) k)
    key_billed k given = by (lookup test es) refl
      where
        by : (o : Option (Kept V)) → lookup test es ≡ o →
            Declares m key_size (key_shows (unwrap_or (lookup_key test es) key)) (key_bytes_in o k)
        by None none = rw (key_none test es none) (given none)
        by (Some e) is = (billed-found (IsBilled key_size key_shows size may_show m) test es key e h (sym is)).of_key

    -- If there is room for a value with a new key, there is room for it in place of what the key has.
    pub room_there : (all most sum limit k n : ℕ) → HasRoom all (Some most) sum limit 0 (n + k) →
        HasRoom all (Some most) sum limit (bytes_in kept_bytes (lookup test es)) (key_bytes_in (lookup test es) k + n)
    room_there all most sum limit k n r = by (lookup test es) refl
      where
        by : (o : Option (Kept V)) → lookup test es ≡ o →
            HasRoom all (Some most) sum limit (bytes_in kept_bytes o) (key_bytes_in o k + n)
        by None none = record {
          fits = omega (arith, r.fits);
          within = omega (arith, r.within);
          all_within = omega (arith, r.all_within);
        }
        by (Some e) is =
            let b = billed-found (IsBilled key_size key_shows size may_show m) test es key e h (sym is) in
            record {
              fits = omega (arith, r.fits, b.together);
              within = omega (arith, r.within, b.together);
              all_within = omega (arith, r.all_within, b.together);
            }

  module _ (key_strict is_strict : Bool) (cmp : K → K → Ordering) (all most : ℕ) (key : K) (v : V)
      (a : AccountData K (Kept V)) (r : Rejection) where
    -- A value that was measured is refused if it cannot be entered.
    pub refuses : (k n : ℕ) → AreBilled (IsBilled key_size key_shows size may_show a.measure) a.entries →
        (lookup (is_at (cmp key)) a.entries ≡ None → Declares a.measure key_size (key_shows key) k) →
        Declares a.measure size (may_show v) n →
        RejectsEntry all (Some most) (billed_sum kept_bytes a.entries) a.limit
        (option_map kept_bytes (lookup (is_at (cmp key)) a.entries))
        (key_bytes_in (lookup (is_at (cmp key)) a.entries) k + n) r →
        RefusesPut key_size key_shows size may_show key_strict is_strict cmp all most key v a r
    refuses k n h given value refused =
        inr (inr (n, value, (_, key_billed a.measure (is_at (cmp key)) a.entries key h k given, refused)))

    -- What is refused as a new key with its value is refused if there is no such key.
    pub refuses_new : (n : ℕ) → AreBilled (IsBilled key_size key_shows size may_show a.measure) a.entries →
        lookup (is_at (cmp key)) a.entries ≡ None → Declares a.measure size (may_show v) n →
        RejectsThen (Measures a.measure key_strict key_size (key_shows key))
        (λ k. RejectsRoom all (Some most) (billed_sum kept_bytes a.entries) a.limit 0 (n + k)) r →
        RefusesPut key_size key_shows size may_show key_strict is_strict cmp all most key v a r
    refuses_new n h none value (inl refused) = inl (none, refused)
    refuses_new n h none value (inr (k, gives, large)) =
        let same : n + k ≡ k + n = omega arith in
        refuses k n h (λ e. gives) value (inl (rw none (rw same at large)))
