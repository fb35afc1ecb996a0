-- How what was counted composes as what is shown does.
use Rattle.std.proofs.Common.{◌≡◌, ◌≤◌, ◌<◌, ◌+◌, ◌^◌, ℕ, Bool, true, false, Option, Some, None, refl, sym, subst}
use Rattle.std.proofs.Common.{◌∙◌, arith}
use Rattle.std.proofs.lemmas.Bool.{false≢true}
use Rattle.allocative.proofs.Common.{Key, Forest, Empty, followed_by, entry_of, Showing, Nothing, Both, InsideAs}
use Rattle.allocative.proofs.Common.{Inside, Field}
use Rattle.allocative.proofs.Strict.{followed_by-empty, followed_by_assoc}
use Rattle.allocative_graph.{specs.Owned.direct, proofs.Owned.direct-following}
use Rattle.allocative_tally.specs.{IsPlain, Merged, Width, Unique, Wide, is_unique, HasWidth, Shape, NoEntry, Beside}
use Rattle.allocative_tally.specs.{EntryAt, forest_of, IsRight, entry_counted, top_bytes, is_there}
use Rattle.allocative_tally.specs.{ShownAs, IsWithin, AddsEntry, both_bounds}
use Rattle.allocative_tally.proofs.Sizes.{HoldsBound, holds_itself, holds_nothing}
use Rattle.allocative_tally.proofs.Shown.{field_as}
use Rattle.allocative_tally.proofs.Merging.{plain_parts, plain_inside, merged_same, merged_then, merged_both}
use Rattle.allocative_tally.proofs.Merging.{merged_entry, merged_inside, KeepsOwned, direct_entry, merged_swapped}
use Rattle.allocative_tally.specs.{Tallies.Tallies, declared.tally.Sum.Sum}

-- Nothing more was counted.
pub tallies_none : {w : Option ℕ} {p : Showing} {s : Shape} → p Empty → Tallies w p s s
tallies_none {w} {s = s} x = record {
  counted = Empty;
  allowed = x;
  within = elim w as (λ v. IsWithin 0 v) [ None ↦ tt | Some n ↦ omega arith ];
  merged = λ r room. (rw (followed_by-empty (forest_of s)) (merged_same (forest_of s) r.0), r.1);
}

-- What was counted as p within a bound was counted as q, if p is shown as q, within a size that holds the bound.
pub tallies_to : {v w : Option ℕ} {p q : Showing} {s t : Shape} → HoldsBound v w → ShownAs p q → Tallies w p s t →
    Tallies v q s t
tallies_to h a t = record {
  counted = t.counted;
  allowed = a.up t.counted t.allowed;
  within = h.room _ t.within;
  merged = t.merged;
}

-- What was counted as p was counted as q, if p is shown as q.
pub tallies_as : {w : Option ℕ} {p q : Showing} {s t : Shape} → ShownAs p q → Tallies w p s t → Tallies w q s t
tallies_as a t = tallies_to holds_itself a t

-- Two forests are within the bounds of both if each is within its own.
both_within : (m n : Option ℕ) (f g : Forest) → IsWithin (direct f) m → IsWithin (direct g) n →
    IsWithin (direct (followed_by f g)) (both_bounds m n)
both_within (Some m) (Some n) f g h l = omega (arith, h, l, direct-following f g)
both_within m n f g h l = tt

-- One value and then another were counted into one tally.
pub tallies_then : {w v : Option ℕ} {p q : Showing} {s t u : Shape} → Tallies w p s t → Tallies v q t u →
    Tallies (both_bounds w v) (Both p q) s u
tallies_then {w} {v} {s = s} {t = t} {u = u} a b = record {
  counted = followed_by a.counted b.counted;
  allowed = (a.counted, b.counted, a.allowed, b.allowed, refl);
  within = both_within w v a.counted b.counted a.within b.within;
  merged = λ r room.
      let m = a.merged r (omega (arith, room, direct-following a.counted b.counted)) in
      let l = b.merged (m.0.plain_merged, m.1) (omega (arith, room, direct-following, m.0.same_direct)) in
      let more = plain_parts (forest_of t) b.counted l.0.plain in
      let all = merged_then (merged_both m.0 (merged_same b.counted more.1)) l.0 in
      (subst (λ (h : Forest). Merged h (forest_of u)) (followed_by_assoc (forest_of s) a.counted b.counted) all, l.1);
}

-- A value was counted into the first of two shapes.
pub first_counted : {w : Option ℕ} {p : Showing} {s t u : Shape} → Tallies w p s t →
    Tallies w p (Beside s u) (Beside t u)
first_counted {s = s} {u = u} c = record {
  counted = c.counted;
  allowed = c.allowed;
  within = c.within;
  merged = λ r room.
      let old = plain_parts (forest_of s) (forest_of u) r.0 in
      let m = c.merged (old.0, r.1.0) (omega (arith, room, direct-following (forest_of s) (forest_of u))) in
      let more = plain_parts (forest_of s) c.counted m.0.plain in
      let swapped = merged_swapped (forest_of u) c.counted old.1 more.1 in
      let all = merged_both m.0 (merged_same (forest_of u) old.1) in
      let before = merged_both (merged_same (forest_of s) old.0) swapped in
      (rw followed_by_assoc (merged_then before (rw followed_by_assoc at all)), (m.1, r.1.1));
}

-- A value was counted into the second of two shapes.
pub second_counted : {w : Option ℕ} {p : Showing} {s t u : Shape} → Tallies w p s t →
    Tallies w p (Beside u s) (Beside u t)
second_counted {s = s} {u = u} c = record {
  counted = c.counted;
  allowed = c.allowed;
  within = c.within;
  merged = λ r room.
      let old = plain_parts (forest_of u) (forest_of s) r.0 in
      let m = c.merged (old.1, r.1.1) (omega (arith, room, direct-following (forest_of u) (forest_of s))) in
      (rw followed_by_assoc (merged_both (merged_same (forest_of u) old.0) m.0), (r.1.0, m.1));
}

-- Two values were counted, each into a tally of its own.
pub tallies_both : {m n : Option ℕ} {p q : Showing} {s t u v : Shape} → Tallies m p s t → Tallies n q u v →
    Tallies (both_bounds m n) (Both p q) (Beside s u) (Beside t v)
tallies_both a b = tallies_then (first_counted a) (second_counted b)

-- Entries of one kind keep what they own when they are merged.
keeps_owned : (x : Width) (m n : ℕ) (f h : Forest) → HasWidth x m f → HasWidth x n h → KeepsOwned (is_unique x) m n f h
keeps_owned Unique m n f h a b e = absurd (false≢true (sym e))
keeps_owned x m n f h a b e = omega (arith, a, b)

-- The merged entry is of the same kind.
keeps_both : (x : Width) (m n : ℕ) (f h g : Forest) → HasWidth x m f → HasWidth x n h → direct f + direct h ≡ direct g →
    HasWidth x (m + n) g
keeps_both Unique m n f h g a b e = tt
keeps_both x m n f h g a b e = omega (arith, a, b, e)

-- What an entry was before, if it was there: what was inside it is plain, and it had its bytes.
before : (b u : Bool) (k : Key) (m : ℕ) (f : Forest) → IsPlain (entry_counted b u k m f) →
    (b ≡ false → (m ≡ 0) × (f ≡ Empty)) → IsPlain f × (direct (entry_counted b u k m f) ≡ m)
before true u k m f plain none = (plain_inside u k m f plain, direct_entry u k m f)
before false u k m f plain none = let nothing = none refl in (subst IsPlain (sym nothing.1) tt, sym nothing.0)

-- If what is inside two entries was merged, so are the entries, if the first was there.
entries_merged : (b u : Bool) (k : Key) (m n : ℕ) (f h g : Forest) → (b ≡ false → (m ≡ 0) × (f ≡ Empty)) →
    m + n < 2 ^ 64 → KeepsOwned u m n f h → Merged (followed_by f h) g →
    Merged (followed_by (entry_counted b u k m f) (entry_of u k n h)) (entry_of u k (m + n) g)
entries_merged true u k m n f h g none room keeps t =
    let x = plain_parts f h t.plain in
    merged_then (merged_entry u k m n f h x.0 x.1 room keeps) (merged_inside u k (m + n) t)
entries_merged false u k m n f h g none room keeps t =
    let nothing = none refl in
    let bytes : m + n ≡ n = omega (arith, nothing.0) in rw bytes (merged_inside u k n (rw nothing.1 at t))

-- One more entry was counted, with what is inside it.
pub tallies_entry : {w : Option ℕ} {p : Showing} (x : Width) (k : Key) (n : ℕ) {old new : Sum} {s t : Shape} →
    AddsEntry n old new → (c : Tallies w p s t) → HasWidth x n c.counted →
    (IsRight s → HasWidth x old.bytes (forest_of s) → old.bytes + n < 2 ^ 64 →
    direct (forest_of s) + direct c.counted < 2 ^ 64) →
    Tallies (Some n) (InsideAs (is_unique x) k n p) (EntryAt x k old s) (EntryAt x k new t)
tallies_entry {w} {p} x k n {old} {new} {s} {t} more c keeps inside = record {
  counted = entry_of (is_unique x) k n c.counted;
  allowed = (c.counted, c.allowed, refl);
  within = omega (arith, direct_entry (is_unique x) k n c.counted);
  merged = λ (plain, (holds, none, kept)) room.
      let u = is_unique x in
      let m = old.bytes in
      let f = forest_of s in
      let old_is = before (is_there old) u k m f plain none in
      let sizes : m + n < 2 ^ 64 = omega (arith, room, old_is.1, direct_entry u k n c.counted) in
      let all = c.merged (old_is.0, holds) (inside (old_is.0, holds) kept sizes) in
      let direct_is = sym (direct-following f c.counted) ∙ all.0.same_direct in
      rw (more.is_there, more.bytes sizes) (
        entries_merged (is_there old) u k m n f c.counted (forest_of t) none sizes
            (keeps_owned x m n f c.counted kept keeps) all.0,
        (all.1, (λ e. absurd (false≢true (sym e))), keeps_both x m n f c.counted (forest_of t) kept keeps direct_is),
      );
}

-- ---- in the words of the code
-- One more inline entry was counted, with what is inside it.
pub counted_inline : {w : Option ℕ} {p : Showing} {k : Key} {n : ℕ} {old new : Sum} {s t : Shape} →
    AddsEntry n old new → Tallies w p s t → HoldsBound (Some n) w →
    Tallies (Some n) (Inside k n p) (EntryAt Wide k old s) (EntryAt Wide k new t)
counted_inline {k = k} {n = n} more c fits =
    let kept = fits.room (direct c.counted) c.within in
    tallies_entry Wide k n more c kept (λ r a room. omega (arith, kept, a, room))

-- One more unique entry was counted, with what is inside it.
pub counted_unique : {w : Option ℕ} {p : Showing} {k : Key} {n : ℕ} {old new : Sum} {s t : Shape} →
    AddsEntry n old new → (c : Tallies w p s t) → (IsRight s → direct (forest_of s) + direct c.counted < 2 ^ 64) →
    Tallies (Some n) (InsideAs true k n p) (EntryAt Unique k old s) (EntryAt Unique k new t)
counted_unique {k = k} {n = n} more c room = tallies_entry Unique k n more c tt (λ r a fits. room r)

-- One more inline entry with nothing inside it was counted.
pub counted_leaf : {k : Key} {n : ℕ} {old new : Sum} → AddsEntry n old new →
    Tallies (Some n) (Inside k n Nothing) (EntryAt Wide k old NoEntry) (EntryAt Wide k new NoEntry)
counted_leaf more = counted_inline more (tallies_none {w = Some 0} refl) (holds_nothing _)

-- An entry of a declared size was counted.
pub counted_field : {k : Key} {size : Option ℕ} {n : ℕ} {p : Showing} {s t : Shape} → size ≡ Some n →
    Tallies (Some n) (Inside k n p) s t → Tallies size (Field k size p) s t
counted_field e c = rw e (tallies_as field_as c)

-- ---- the bytes at the top of a shape
-- An entry has at most the bytes of its sum.
pub entry_direct : (x : Width) (k : Key) (sum : Sum) (s : Shape) → direct (forest_of (EntryAt x k sum s)) ≤ sum.bytes
entry_direct x k sum s =
    elim (is_there sum) as (λ b. direct (entry_counted b (is_unique x) k sum.bytes (forest_of s)) ≤ sum.bytes)
    [ true ↦ omega (arith, direct_entry (is_unique x) k sum.bytes (forest_of s)) | false ↦ omega arith ]

-- A shape has at most the bytes of its sums.
pub shape_direct : (s : Shape) → direct (forest_of s) ≤ top_bytes s
shape_direct NoEntry = omega arith
shape_direct (Beside s t) = omega (arith, direct-following (forest_of s) (forest_of t), shape_direct s, shape_direct t)
shape_direct (EntryAt x k sum s) = entry_direct x k sum s
