-- The entries of a cache after evictions, insertions and uses.
use Rattle.std.proofs.Common.{◌≡◌, ℕ, ◌+◌, ◌-◌, ◌<◌, ◌≤◌, Some, [], ◌∷◌, ◌++◌, length, take, sym, ap, ◌∙◌, subst, arith}
use Rattle.std.proofs.Common.{append_assoc, Bool, None, Option, refl, take_all, All, option_map}
use Rattle.std.specs.Map.{values_of, lookup_entry, lookup_key, remove_entry}
use Rattle.allocative_service.specs.declared.kept.Kept.{Kept}
use Rattle.allocative_service.specs.Entries.{Entries, bytes_of, KeepsRecent, HandsBack, IsNeeded, Bounded, IsBounded}
use Rattle.allocative_service.specs.Entries.{AreKept, with_entries, stored_key, Inserts}
use Rattle.std.proofs.lemmas.List.Sums.{sum_by-cons}
use Rattle.lru.specs.LruCache.{last_entry, LruCache, put_entries, promoted}
use Rattle.lru.proofs.Pairs.{cut_end, last_of_push, lookup-lookup_entry}
use Rattle.allocative.specs.Forest.{Forest}
use Rattle.allocative_service.specs.Kept.{IsBilled, kept_bytes}
use Rattle.std.proofs.lemmas.List.Elements.{All-cons, All-take, All-contains}
use Rattle.std.proofs.lemmas.Map.Entries.{sum_by-remove_entry}
use Rattle.std.proofs.Math.Seq.{take-append_seam}
use Rattle.allocative_service.specs.declared.measure.Measure.{Measure}
use Rattle.allocative_service.proofs.Billing.{billed-remove, entry_within, removed_sum}
use Rattle.lru.proofs.CallerLemmas.{Contains-lookup_entry}

-- The bytes of a list are those of its first entry and of the rest.
pub bytes_of-cons : {K V : Type 0} (e : K × Kept V) (es : Entries K V) → bytes_of (e ∷ es) ≡ e.1.bytes + bytes_of es
bytes_of-cons {K} {V} e es = sum_by-cons (λ (k : Kept V). k.bytes) e.1 (values_of es)

-- One entry more adds its bytes.
bytes_of-push : {K V : Type 0} (us : Entries K V) (e : K × Kept V) → bytes_of (us ++ e ∷ []) ≡ bytes_of us + e.1.bytes
bytes_of-push [] e = omega (arith, bytes_of-cons e [])
bytes_of-push (u ∷ us) e = omega (arith, bytes_of-cons u us, bytes_of-cons u (us ++ e ∷ []), bytes_of-push us e)

-- Entries that had to go beside another have to go from the room that it leaves.
less_needed : {K V : Type 0} (room : ℕ) (k : K × Kept V) (others gone : Entries K V) → k.1.bytes ≤ room →
    IsNeeded room (k ∷ others) gone → IsNeeded (room - k.1.bytes) others gone
less_needed room k others [] fits h = tt
less_needed room k others (e ∷ more) fits h = omega (arith, fits, h, bytes_of-cons k others)

module _ {F K V : Type 0} (step : F → K → V → F → Type 0) (on_evict : F) (room : ℕ) where
  module _ (before : Entries K V) where
    -- Evicting leaves these entries, and the closure in this state.
    pub record Evicts (after : Entries K V) (now : F) : Type 0 where
      pub gone : Entries K V
      pub parts : before ≡ after ++ gone
      pub needed : IsNeeded room after gone
      pub handed : HandsBack step on_evict gone now

    -- Removing the last entry is one step of evicting, if there is no room for all.
    pub goes : (es : Entries K V) (f : F) (e : K × Kept V) → Evicts es f → room < bytes_of es → last_entry es ≡ Some e
        → (bytes_of es - e.1.bytes ≡ bytes_of (take (length es - 1) es))
        × ((g : F) → step f e.0 e.1.value g → Evicts (take (length es - 1) es) g)
    goes [] f e s more is = absurd cc
    goes (h ∷ rest) f e s more is =
        let cut = cut_end (h ∷ rest) (omega arith) in
        let last = last_of_push cut.0 cut.1 in
        let same : Some cut.1 ≡ Some e = sym last.0 ∙ ap last_entry (sym cut.2) ∙ is in
        let it : cut.1 ≡ e = cc in
        let parts : h ∷ rest ≡ cut.0 ++ e ∷ [] = cut.2 ∙ ap (λ y. cut.0 ++ y ∷ []) it in
        let stay : take (length (h ∷ rest) - 1) (h ∷ rest) ≡ cut.0 = ap (λ l. take (length l - 1) l) cut.2 ∙ last.1 in
        let sum = ap (λ (l : Entries K V). bytes_of l) parts ∙ bytes_of-push cut.0 e in
        rw stay (
          omega (arith, sum),
          λ g called. record {
            gone = e ∷ s.gone;
            parts = s.parts ∙ ap (λ l. l ++ s.gone) parts ∙ append_assoc cut.0 (e ∷ []) s.gone;
            needed = omega (arith, sum, more);
            handed = (f, s.handed, called);
          },
        )

  -- If the first entry has room by itself, it stays, and the others are evicted as far as it leaves no room for them.
  pub first_stays : (k : K × Kept V) (rest after : Entries K V) → k.1.bytes ≤ room →
      KeepsRecent step on_evict room (k ∷ rest) after →
      (others : Entries K V) × (after ≡ k ∷ others) × KeepsRecent step on_evict (room - k.1.bytes) rest others
  first_stays k rest [] fits r = absurd (omega
      (arith, fits, subst (λ (l : Entries K V). IsNeeded room [] l) (sym r.parts) r.needed))
  first_stays k rest (x ∷ others) fits r =
      let whole : k ∷ rest ≡ x ∷ (others ++ r.gone) = r.parts in
      let first : x ≡ k = cc in
      let parts : rest ≡ others ++ r.gone = cc in
      let needed = subst (λ (y : K × Kept V). IsNeeded room (y ∷ others) r.gone) first r.needed in (
        others,
        ap (λ y. y ∷ others) first,
        record {
          gone = r.gone;
          parts = parts;
          needed = less_needed room k others r.gone fits needed;
          last = r.last;
          handed = r.handed;
        },
      )

module _ {K V : Type 0} where
  -- Nothing is removed if no key passes the test.
  pub none_removed : (test : K → Bool) (es : Entries K V) → lookup_entry test es ≡ None → remove_entry test es ≡ es
  none_removed test [] none = refl
  none_removed test (e ∷ es) none = grind (arith, none_removed test es)

  -- The key of the entry that passes the test.
  key_of_entry : (test : K → Bool) (es : Entries K V) →
      lookup_key test es ≡ option_map (λ e. e.0) (lookup_entry test es)
  key_of_entry test [] = refl
  key_of_entry test (e ∷ es) = grind (arith, key_of_entry test es)

  -- Below the capacity, `put` places the pair first and removes only the entry of an equal key.
  pub put_entries-unbounded : (eq : K → K → Bool) (c : LruCache K (Kept V)) (key : K) (k : Kept V) →
      length c.entries < c.cap →
      put_entries eq c key k ≡ (stored_key eq key c.entries, k) ∷ remove_entry (eq key) c.entries
  put_entries-unbounded eq c key k fewer = grind (arith, none_removed, take_all, key_of_entry)

module _ {K V : Type 0} {key_size : Option ℕ} {key_shows : K → Forest → Type 0} {size : Option ℕ}
    {may_show : V → Forest → Type 0} {m : Measure} where
  -- What is left without a key is kept.
  pub without-kept : {es : Entries K V} {n : ℕ} (test : K → Bool) → AreKept key_size key_shows size may_show m es n →
      AreKept key_size key_shows size may_show m (remove_entry test es) n
  without-kept {es} test h = record {
    within = let sum = sum_by-remove_entry kept_bytes test es in omega (arith, sum, h.within);
    measured = billed-remove (IsBilled key_size key_shows size may_show m) test es h.measured;
  }

  -- An entry that has its bill is kept before others.
  pub first-kept : {es : Entries K V} {n : ℕ} (k : K × Kept V) (most : ℕ) →
      IsBilled key_size key_shows size may_show m k.0 k.1 → k.1.bytes + bytes_of es ≤ most →
      AreKept key_size key_shows size may_show m es n → AreKept key_size key_shows size may_show m (k ∷ es) most
  first-kept {es} k most bill fits h = record {
    within = let sum = bytes_of-cons k es in omega (arith, sum, fits);
    measured = All-cons (λ (e : K × Kept V). IsBilled key_size key_shows size may_show m e.0 e.1) k es bill h.measured;
  }

  module _ {F : Type 0} {step : F → K → V → F → Type 0} {on_evict : F} where
    -- What stays after evictions is kept.
    pub recent-kept : {before after : Entries K V} {room n : ℕ} (most : ℕ) →
        KeepsRecent step on_evict room before after → bytes_of after ≤ most →
        AreKept key_size key_shows size may_show m before n →
        AreKept key_size key_shows size may_show m after most
    recent-kept {before} {after} {room} most recent within h = record {
      within = within;
      measured =
          let P = λ (e : K × Kept V). IsBilled key_size key_shows size may_show m e.0 e.1 in
          subst (All P) (take-append_seam after recent.gone) (All-take P _ _ (rw recent.parts at h.measured));
    }

module _ {F K V : Type 0} {key_size : Option ℕ} {key_shows : K → Forest → Type 0} {size : Option ℕ}
    {may_show : V → Forest → Type 0} {eq : K → K → Bool} {step : F → K → V → F → Type 0} {on_evict : F} {key : K}
    {v : V} {old : Bounded K V} where
  -- Putting a value first and then evicting others is an insertion.
  pub insertion : (entry : Kept V) (put now : Entries K V) → entry.value ≡ v →
      IsBilled key_size key_shows size may_show old.measure (stored_key eq key old.entries) entry →
      entry.bytes ≤ old.bound → put ≡ (stored_key eq key old.entries, entry) ∷ remove_entry (eq key) old.entries →
      KeepsRecent step on_evict old.bound put now → bytes_of now ≤ old.bound
      → Inserts key_size key_shows size may_show eq step on_evict key v old (with_entries old now)
  insertion entry put now value bill fits is recent within =
      let k : K × Kept V = (stored_key eq key old.entries, entry) in
      let e = first_stays step on_evict old.bound k (remove_entry (eq key) old.entries) now fits
      (subst (λ (l : Entries K V). KeepsRecent step on_evict old.bound l now) is recent) in
      let sum = ap (λ (l : Entries K V). bytes_of l) e.1 ∙ bytes_of-cons k e.0 in
      record {
        entry = entry;
        others = e.0;
        value = value;
        billed = bill;
        fits = omega (arith, sum, within);
        recent = e.2;
        is = ap (λ (l : Entries K V). with_entries old l) e.1;
      }

  -- After an insertion the cache is still within its bound.
  pub Inserts-bounded : {new : Bounded K V} → Inserts key_size key_shows size may_show eq step on_evict key v old new →
      IsBounded key_size key_shows size may_show old → IsBounded key_size key_shows size may_show new
  Inserts-bounded i h = rw i.is (first-kept _ old.bound i.billed i.fits
      (recent-kept old.bound i.recent (omega (arith, i.fits)) (without-kept (eq key) h)))

-- The lemmas on the entries that a value is put into.
pub ruleset putting = (sum_by-remove_entry, put_entries-unbounded, entry_within)

module _ {K V : Type 0} (test : K → Bool) (es : Entries K V) where
  -- The bytes of a removed entry and those of the remaining entries are the bytes of all.
  pub bytes_of-taken : (e : K × Kept V) → Some e ≡ lookup_entry test es →
      bytes_of (remove_entry test es) + e.1.bytes ≡ bytes_of es
  bytes_of-taken e is = removed_sum kept_bytes test es e.1
      (ap (option_map (λ (f : K × Kept V). f.1)) is ∙ lookup-lookup_entry test es)

  -- Using a key changes no bytes, and all entries stay kept.
  pub promoted-kept : {C : Type 0} {key_size : Option ℕ} {key_shows : K → Forest → Type 0} {size : Option ℕ}
      {may_show : V → Forest → Type 0} {m : Measure} {n bytes : ℕ} →
      C × (bytes ≡ bytes_of es) × AreKept key_size key_shows size may_show m es n →
      C × (bytes ≡ bytes_of (promoted test es)) × AreKept key_size key_shows size may_show m (promoted test es) n
  promoted-kept {C} {key_size} {key_shows} {size} {may_show} {m} {n} {bytes} (known, is, h) =
      (elim (lookup_entry test es) as (λ o. lookup_entry test es ≡ o → C × (bytes ≡ bytes_of (promoted test es))
      × AreKept key_size key_shows size may_show m (promoted test es) n) [
        | None ↦ λ none. rw none (known, is, h)
        | Some e ↦ λ some.
            let sum = bytes_of-taken e (sym some) in
            let first = bytes_of-cons e (remove_entry test es) in
            let here = (Contains-lookup_entry test es e some).0 in
            let P = λ (f : K × Kept V). IsBilled key_size key_shows size may_show m f.0 f.1 in
            let it = All-contains P es e h.measured here in
            let within : e.1.bytes + bytes_of (remove_entry test es) ≤ n = omega (arith, sum, h.within) in
            rw some (known, omega (arith, is, sum, first), first-kept e n it within (without-kept test h))
      ]) refl

-- The entry of a key and a value that were found.
pub taken : {K V : Type 0} (o : Option (K × Kept V)) (key : K) (v : V) →
    ◌≡◌ {A = Option (K × V)} (Some (key, v)) (option_map (λ e. (e.0, e.1.value)) o) →
    (had : Kept V) × (o ≡ Some (key, had)) × (had.value ≡ v)
taken None key v is = absurd cc
taken (Some e) key v is = (e.1, grind arith, grind arith)

-- The lemmas on the bytes after a removal.
pub ruleset removing = (bytes_of-taken, none_removed)
