-- Forests without shared entries, and how merged forests compose.
use Rattle.std.proofs.Common.{◌≡◌, ℕ, suc, ◌+◌, ◌-◌, ◌<◌, ◌^◌, Bool, true, false, cond, [], ◌∷◌, ◌++◌, refl, sym, ap}
use Rattle.std.proofs.Common.{◌∙◌, arith, append-nil}
use Rattle.std.proofs.lemmas.List.Sums.{fold-append, sum_by-append}
use Rattle.allocative_graph.specs.Forest.{Inline, Unique, Entry, Bag, AsInline, AsUnique, own_behind, contents, Fits}
use Rattle.allocative_graph.specs.Forest.{met_after}
use Rattle.allocative_graph.specs.Collector.{Restore, forest_bytes, figure_after, entries_at}
use Rattle.allocative_graph.proofs.Sums.{add_all-same, get-add, same_sums}
use Rattle.allocative_graph.proofs.Plus.{plus-following, forest_bytes-following, inside_entry}
use Rattle.allocative_graph.{specs.Path.Path, specs.Identity.Identities, specs.Sums.Sums, specs.Sums.add}
use Rattle.allocative_graph.{specs.Owned.direct, specs.declared.restore.Restore.TheVariants.Held}
use Rattle.allocative_graph.{specs.declared.restore.Restore.TheVariants.Owned, proofs.Basics.same_path_itself}
use Rattle.allocative_graph.{proofs.Showings.own-following, proofs.Owned.direct-following, proofs.Owned.owned-following}
use Rattle.allocative.proofs.Common.{Key, Forest, Empty, First, Again, followed_by, entry_of, add_all, ShowsContents}
use Rattle.allocative.proofs.Common.{Kind, OfGraph, OfSum, Takes, plus, enter, leave, outer_of}
use Rattle.allocative.{specs.Strict.FitsWords, proofs.Strict.words_both as words_apart}
use Rattle.allocative_tally.specs.{IsPlain, Merged}

-- Two forests without shared entries have none one after another.
pub plain_both : (f g : Forest) → IsPlain f → IsPlain g → IsPlain (followed_by f g)
plain_both Empty g h l = l
plain_both (Inline k n f after) g h l = (h.0, plain_both after g h.1 l)
plain_both (Unique k n f after) g h l = (h.0, plain_both after g h.1 l)
plain_both f g h l = absurd h

-- Neither of two forests has a shared entry if they have none one after another.
pub plain_parts : (f g : Forest) → IsPlain (followed_by f g) → IsPlain f × IsPlain g
plain_parts Empty g h = (tt, h)
plain_parts (Inline k n f after) g h = let r = plain_parts after g h.1 in ((h.0, r.0), r.1)
plain_parts (Unique k n f after) g h = let r = plain_parts after g h.1 in ((h.0, r.0), r.1)
plain_parts f g h = absurd h

-- An entry is not shared if what is inside it is not.
pub plain_entry : (u : Bool) (k : Key) (n : ℕ) (f : Forest) → IsPlain f → IsPlain (entry_of u k n f)
plain_entry true k n f h = (h, tt)
plain_entry false k n f h = (h, tt)

-- What is inside an entry that is not shared has no shared entry.
pub plain_inside : (u : Bool) (k : Key) (n : ℕ) (f : Forest) → IsPlain (entry_of u k n f) → IsPlain f
plain_inside true k n f h = h.0
plain_inside false k n f h = h.0

-- A forest without shared entries has no contents, fits any identities, and shows all its contents.
pub plain_facts : (f : Forest) → IsPlain f → (contents f ≡ []) × ((s : Identities) → Fits s f) × ShowsContents f
plain_facts Empty h = (refl, λ s. tt, tt)
plain_facts (Inline k n f after) h =
    let a = plain_facts f h.0 in
    let b = plain_facts after h.1 in
    (λ i. a.0 i ++ b.0 i, λ s. (a.1 s, b.1 (met_after s f)), (a.2, b.2))
plain_facts (Unique k n f after) h =
    let a = plain_facts f h.0 in
    let b = plain_facts after h.1 in
    (λ i. a.0 i ++ b.0 i, λ s. (a.1 s, b.1 (met_after s f)), (a.2, b.2))
plain_facts f h = absurd h

-- Each collector takes a forest without shared entries.
pub plain_taken : (c : Kind) (f : Forest) → IsPlain f → Takes c f
plain_taken (OfGraph c) f h = (plain_facts f h).1 c.met
plain_taken (OfSum s) f h = rw (plain_facts f h).0 tt

-- ---- merged forests
-- A forest with no shared entry merges itself.
pub merged_same : (f : Forest) → IsPlain f → Merged f f
merged_same f h =
    record { plain = h; plain_merged = h; same = λ b. refl; same_direct = refl; fits = λ o w. w }

-- What merges a forest that merges another one merges that one too.
pub merged_then : {f g h : Forest} → Merged f g → Merged g h → Merged f h
merged_then m l = record {
  plain = m.plain;
  plain_merged = l.plain_merged;
  same = λ b. m.same b ∙ l.same b;
  same_direct = m.same_direct ∙ l.same_direct;
  fits = λ o w. l.fits o (m.fits o w);
}

-- A forest merges another one, and neither has a shared entry, if they add the same to all sums at each place and the
-- same bytes to each sum, have as many bytes at the top, and it exceeds no word unless the other does.
merged_by : {f g : Forest} → IsPlain f → IsPlain g →
    ((s : Sums) (p : Path) → add_all s (own_behind p f) ≡ add_all s (own_behind p g)) →
    ((r : Restore) → forest_bytes r f ≡ forest_bytes r g) → direct f ≡ direct g →
    ((o : ℕ) → FitsWords o f → FitsWords o g) → Merged f g
merged_by {f} {g} x y sums bytes top fits =
    record { plain = x; plain_merged = y; same = same; same_direct = top; fits = fits }
  where
    same : (b : Kind) → plus b f ≡ plus b g
    same (OfGraph c) =
        let own : add_all c.sums (entries_at c.here f) ≡ add_all c.sums (entries_at c.here g) =
        rw ((plain_facts f x).0, (plain_facts g y).0) (simp append-nil (sums c.sums c.here)) in
        let met : met_after c.met f ≡ met_after c.met g = rw ((plain_facts f x).0, (plain_facts g y).0) refl in
        λ i. OfGraph (record c { sums = own i; met = met i })
    same (OfSum s) = λ i. OfSum (record s { sum = s.sum + bytes s.figure i; figure = figure_after s.figure (top i) })

-- ---- one forest after another
-- Adding two forests, one after another, adds the first and then the second.
sums_both : (s : Sums) (p : Path) (f g : Forest) → add_all s (own_behind p (followed_by f g)) ≡ add_all (add_all s
    (own_behind p f)) (own_behind p g)
sums_both s p f g = ap (add_all s) (own-following p f g) ∙ fold-append add s (own_behind p f) (own_behind p g)

-- If neither of two forests exceeds a word, they do not together.
words_both : (o : ℕ) (f g : Forest) → FitsWords o f → FitsWords o g → FitsWords o (followed_by f g)
words_both o Empty g h l = l
words_both o (Inline k n f after) g h l = (h.0, h.1, h.2, words_both o after g h.3 l)
words_both o (Unique k n f after) g h l = (h.0, h.1, h.2, words_both o after g h.3 l)
words_both o (First k n i f after) g h l = words_both o after g h l
words_both o (Again k n i after) g h l = words_both o after g h l

-- Two forests, one after another, are merged if each is.
pub merged_both : {f g h k : Forest} → Merged f g → Merged h k → Merged (followed_by f h) (followed_by g k)
merged_both {f} {g} {h} {k} m l = record {
  plain = plain_both f h m.plain l.plain;
  plain_merged = plain_both g k m.plain_merged l.plain_merged;
  same = λ b. plus-following b f h ∙ ap (λ c. plus c h) (m.same b) ∙ l.same (plus b g) ∙ sym (plus-following b g k);
  same_direct = omega (arith, direct-following f h, direct-following g k, m.same_direct, l.same_direct);
  fits = λ o w. let r = words_apart o f h w in words_both o g k (m.fits o r.0) (l.fits o r.1);
}

-- ---- in any order
-- Adding two bags does not depend on which comes first.
swaps : (a b : Bag) (s : Sums) → add_all s (a ++ b) ≡ add_all s (b ++ a)
swaps a b s = add_all-same s (a ++ b) (b ++ a) (λ w. simp sum_by-append (omega arith))

-- Two forests add the same bytes to a sum in either order.
bytes_swapped : (f g : Forest) (r : Restore) → forest_bytes r (followed_by f g) ≡ forest_bytes r (followed_by g f)
bytes_swapped f g (Held u) = omega (arith, forest_bytes-following (Held u) f g, forest_bytes-following (Held u) g f)
bytes_swapped f g (Owned spare) =
    grind (arith, owned-following f g, owned-following g f, direct-following f g, direct-following g f)

-- Two forests merge each other in the other order.
pub merged_swapped : (f g : Forest) → IsPlain f → IsPlain g → Merged (followed_by f g) (followed_by g f)
merged_swapped f g h l = merged_by (plain_both f g h l) (plain_both g f l h)
    (λ s p. ap (add_all s) (own-following p f g) ∙ swaps (own_behind p f) (own_behind p g) s
    ∙ sym (ap (add_all s) (own-following p g f))) (bytes_swapped f g)
    (omega (arith, direct-following f g, direct-following g f))
    (λ o w. let r = words_apart o f g w in words_both o g f r.1 r.0)

-- ---- entries
-- An entry by itself, unique or inline.
abbrev entry_at : Bool → Path → Key → ℕ → Entry
entry_at u p k n = record { path = p ++ k ∷ []; size = n; mark = cond u AsUnique AsInline }

-- The own entries of one entry: itself, and then those inside it.
own_entry : (u : Bool) (p : Path) (k : Key) (n : ℕ) (f : Forest) →
    own_behind p (entry_of u k n f) ≡ entry_at u p k n ∷ own_behind (p ++ k ∷ []) f
own_entry true p k n f = ap (λ b. entry_at true p k n ∷ b) (append-nil (own_behind (p ++ k ∷ []) f))
own_entry false p k n f = ap (λ b. entry_at false p k n ∷ b) (append-nil (own_behind (p ++ k ∷ []) f))

-- Two entries of one place and one mark are one entry of the bytes of both.
one_entry : (s : Sums) (u : Bool) (p : Path) (k : Key) (n m : ℕ) →
    add (add s (entry_at u p k n)) (entry_at u p k m) ≡ add s (entry_at u p k (n + m))
one_entry s u p k n m = same_sums _ _ (λ q. grind (
  arith,
  get-add (add s (entry_at u p k n)) (entry_at u p k m) q,
  get-add s (entry_at u p k n) q,
  get-add s (entry_at u p k n) (p ++ k ∷ []),
  get-add s (entry_at u p k (n + m)) q,
  same_path_itself (p ++ k ∷ []),
))

-- Two inline entries own as much as the merged one if both or neither have bytes beyond those directly inside.
abbrev pub KeepsOwned : Bool → ℕ → ℕ → Forest → Forest → Type 0
KeepsOwned u n m f g = u ≡ false → (n - direct f) + (m - direct g) ≡ (n + m) - (direct f + direct g)

-- Adding two entries of one key and mark adds the entry of the bytes of both, with both insides.
sums_entry : (u : Bool) (k : Key) (n m : ℕ) (f g : Forest) (s : Sums) (p : Path) →
    add_all s (own_behind p (followed_by (entry_of u k n f) (entry_of u k m g)))
    ≡ add_all s (own_behind p (entry_of u k (n + m) (followed_by f g)))
sums_entry u k n m f g s p =
    let e = entry_at u p k n in
    let d = entry_at u p k m in
    let q = p ++ k ∷ [] in
    sums_both s p (entry_of u k n f) (entry_of u k m g)
    ∙ ap (λ b. add_all (add_all s b) (own_behind p (entry_of u k m g))) (own_entry u p k n f)
    ∙ ap (add_all (add_all (add s e) (own_behind q f))) (own_entry u p k m g)
    ∙ ap (λ t. add_all t (own_behind q g)) (sym (fold-append add (add s e) (own_behind q f) (d ∷ []))
    ∙ swaps (own_behind q f) (d ∷ []) (add s e) ∙ ap (λ t. add_all t (own_behind q f)) (one_entry s u p k n m))
    ∙ sym (sums_both (add s (entry_at u p k (n + m))) q f g)
    ∙ sym (ap (add_all s) (own_entry u p k (n + m) (followed_by f g)))

-- They add the same bytes to a sum.
bytes_entry : (u : Bool) (k : Key) (n m : ℕ) (f g : Forest) → KeepsOwned u n m f g → (r : Restore) →
    forest_bytes r (followed_by (entry_of u k n f) (entry_of u k m g))
    ≡ forest_bytes r (entry_of u k (n + m) (followed_by f g))
bytes_entry true k n m f g keeps (Held v) = grind (arith, forest_bytes-following (Held true) f g)
bytes_entry false k n m f g keeps (Held v) = grind (arith, forest_bytes-following (Held false) f g)
bytes_entry true k n m f g keeps (Owned spare) = grind (arith, owned-following f g)
bytes_entry false k n m f g keeps (Owned spare) =
    grind (arith, owned-following f g, direct-following f g, keeps refl)

-- An entry has its own bytes at its top.
pub direct_entry : (u : Bool) (k : Key) (n : ℕ) (f : Forest) → direct (entry_of u k n f) ≡ n
direct_entry true k n f = omega arith
direct_entry false k n f = omega arith

-- Two entries of one key and mark are one entry of the bytes of both, with both insides.
pub merged_entry : (u : Bool) (k : Key) (n m : ℕ) (f g : Forest) → IsPlain f → IsPlain g → n + m < 2 ^ 64 →
    KeepsOwned u n m f g → Merged (followed_by (entry_of u k n f) (entry_of u k m g)) (entry_of u k (n + m)
    (followed_by f g))
merged_entry u k n m f g x y room keeps =
    let first = entry_of u k n f in
    let second = entry_of u k m g in
    merged_by (plain_both first second (plain_entry u k n f x) (plain_entry u k m g y))
    (plain_entry u k (n + m) (followed_by f g) (plain_both f g x y)) (sums_entry u k n m f g)
    (bytes_entry u k n m f g keeps) (omega (arith, direct-following first second, direct_entry)) (by_kind u)
  where
    by_kind : (u : Bool) (o : ℕ) → FitsWords o (followed_by (entry_of u k n f) (entry_of u k m g)) →
        FitsWords o (entry_of u k (n + m) (followed_by f g))
    by_kind true o w = (room, w.1, words_both (suc o) f g w.2 w.3.2, tt)
    by_kind false o w = (room, w.1, words_both (suc o) f g w.2 w.3.2, tt)

-- The same entry with what merges its inside.
pub merged_inside : (u : Bool) (k : Key) (n : ℕ) {f g : Forest} → Merged f g →
    Merged (entry_of u k n f) (entry_of u k n g)
merged_inside u k n {f} {g} m = record {
  plain = plain_entry u k n f m.plain;
  plain_merged = plain_entry u k n g m.plain_merged;
  same = λ b. sym (inside_entry u k n b f) ∙ ap (leave (outer_of n b)) (m.same (enter u k n b))
      ∙ inside_entry u k n b g;
  same_direct = direct_entry u k n f ∙ sym (direct_entry u k n g);
  fits = by_kind u;
}
  where
    by_kind : (u : Bool) (o : ℕ) → FitsWords o (entry_of u k n f) → FitsWords o (entry_of u k n g)
    by_kind true o w = (w.0, w.1, m.fits (suc o) w.2, tt)
    by_kind false o w = (w.0, w.1, m.fits (suc o) w.2, tt)
