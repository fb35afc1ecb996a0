-- What was entered as the merged forest was entered as the forests that it merges.
use Rattle.std.proofs.Common.{◌≡◌, ℕ, Bool, true, false, Result, Ok, refl, sym, ap, subst, ◌∙◌, arith, Option, Some}
use Rattle.std.proofs.Common.{◌<◌, ◌≤◌, ◌^◌}
use Rattle.allocative_graph.specs.{Owned.direct, Sums.bytes_entered, Visits.added}
use Rattle.allocative.proofs.Common.{Refusal, Key, Forest, Empty, followed_by, entry_of, Kind, OfGraph, OfSum, State}
use Rattle.allocative.proofs.Common.{plus, Showing, Nothing, Both, InsideAs, AddsForest, already, refused, hidden}
use Rattle.allocative.proofs.Common.{forgotten, CanTake, HasRoomFor, FailsOnlyIfFull, has_added, has_refused, Entered}
use Rattle.allocative.{specs.Strict.had_failed, proofs.Meaning.entered_as, proofs.Meaning.entered_none}
use Rattle.allocative.{proofs.Strict.may_refuse, proofs.Strict.bytes_entered-plus}
use Rattle.allocative_tally.specs.{IsPlain, Merged, Width, is_unique, Shape, NoEntry, Beside, EntryAt, forest_of}
use Rattle.allocative_tally.specs.{IsNothing, entry_counted, shape_shows, is_shape, is_there, EntersShape, IsWithin}
use Rattle.allocative_tally.proofs.Merging.{plain_taken, plain_facts}
use Rattle.allocative_tally.specs.{Tallies.Tallies, declared.tally.Sum.Sum}

-- ---- no collector tells the two apart
-- The bytes that a collector has counted.
abbrev bytes_counted : Kind → ℕ
bytes_counted (OfGraph c) = bytes_entered c.sums
bytes_counted (OfSum s) = s.sum

-- If a forest exceeds no bound of a collector, the merged one exceeds none.
room_merged : (b : Kind) (f g : Forest) → Merged f g → HasRoomFor b f → HasRoomFor b g
room_merged (OfGraph c) f g m h =
    omega (arith, h, bytes_entered-plus c f, bytes_entered-plus c g, ap bytes_counted (m.same (OfGraph c)))
room_merged (OfSum s) f g m h = (omega (arith, h.0, ap bytes_counted (m.same (OfSum s))), m.fits s.open_visitors h.1)

-- ---- entering
-- p allows a forest that the shape merges.
pub record Counts (p : Showing) (t : Shape) : Type 0 where
  pub one : Forest
  pub allowed : p one
  pub merged : Merged one (forest_of t)

-- A shape shows no other forest.
shown_alone : {t : Shape} {h : Forest} → shape_shows t h → h ≡ forest_of t
shown_alone (is_shape e) = e

-- A collector that can take p can take what was counted.
can_take : {p : Showing} {t : Shape} (b : Kind) → Counts p t → CanTake b p → CanTake b (shape_shows t)
can_take {t = t} b w (d, room) = (
  (forest_of t, is_shape refl, (plain_facts (forest_of t) w.merged.plain_merged).2),
  λ h x. subst (HasRoomFor b) (sym (shown_alone x)) (room_merged b w.one (forest_of t) w.merged (room w.one w.allowed)),
)

-- A collector with what was counted is the collector with the forest that p allows.
after : {p : Showing} {t : Shape} (b : Kind) (h : Forest) → (w : Counts p t) → shape_shows t h → plus b h ≡ plus b w.one
after {t = t} b h w x = ap (plus b) (shown_alone x) ∙ sym (w.merged.same b)

-- What was shown as the shape was shown as p.
shows_counted : {p : Showing} {t : Shape} {a b : State} {r : Result Unit Refusal} → Counts p t →
    AddsForest (shape_shows t) a r b → AddsForest p a r b
shows_counted w already = already
shows_counted w refused = refused
shows_counted w hidden = hidden
shows_counted w (forgotten e h) = forgotten e h
shows_counted w (added {b = b} h x t e) =
    added w.one w.allowed (plain_taken b w.one w.merged.plain) (e ∙ after b h w x)

-- What refuses the shape only if it must refuses p only if it must.
full_counted : {p : Showing} {t : Shape} {a b : State} {r : Result Unit Refusal} → Counts p t →
    FailsOnlyIfFull (shape_shows t) a r b → FailsOnlyIfFull p a r b
full_counted w had_failed = had_failed
full_counted w (has_added {b = b} h x t e) =
    has_added w.one w.allowed (plain_taken b w.one w.merged.plain) (e ∙ after b h w x)
full_counted w (has_refused {b = b} {e = e} m) = has_refused (may_refuse b b (can_take b w) refl e m)

-- Entering what was counted is entering p, exactly.
pub entered_counted : {x : Bool} {p : Showing} {t : Shape} {a b : _} {r : Result (Unit {0}) Refusal} →
    Counts p t → Entered true (shape_shows t) a b r → Entered x p a b r
entered_counted w h = record {
  same_reference = h.same_reference;
  same_outer = h.same_outer;
  shown = shows_counted w h.shown;
  cause = h.cause;
  only_if_full = λ i. full_counted w (h.only_if_full refl);
}

-- What was counted, from nothing.
pub counts : {w : Option ℕ} {n : ℕ} {p : Showing} {s t : Shape} → IsNothing s → Tallies w p s t → w ≡ Some n →
    n < 2 ^ 64 → Counts p t
counts {n = n} {s = s} {t = t} none c e room =
    let within : direct c.counted ≤ n = subst (IsWithin (direct c.counted)) e c.within in
    let empty : direct (forest_of s) ≡ 0 = ap direct none.is_empty in
    let m = (c.merged (subst IsPlain (sym none.is_empty) tt, none.holds) (omega (arith, within, empty, room))).0 in
    record {
      one = c.counted;
      allowed = c.allowed;
      merged = subst (λ (h : Forest). Merged (followed_by h c.counted) (forest_of t)) none.is_empty m;
    }

-- ---- what a tally enters
-- What was entered as a part was entered as the shape whose forest alone the part shows.
enters_as : {p : Showing} {s : Shape} {a b : _} {r : Result (Unit {0}) Refusal} → Entered true p a b r →
    ((f : Forest) → p f → f ≡ forest_of s) → p (forest_of s) → EntersShape s a b r
enters_as {p} h alone there = record {
  entered = entered_as h (record {
    means = λ f x. is_shape (alone f x);
    declared = λ i (f, x, c). (f, subst p (sym (shown_alone x)) there, c);
  });
}

-- Two shapes with the same forest are entered alike.
pub enters_same : {s t : Shape} {a b : _} {r : Result (Unit {0}) Refusal} → forest_of s ≡ forest_of t →
    EntersShape s a b r → EntersShape t a b r
enters_same e h = enters_as h.entered (λ f x. shown_alone x ∙ e) (is_shape (sym e))

-- Two shapes were entered, one after another.
pub enters_both : {s t : Shape} {a b : _} {r : Result (Unit {0}) Refusal} →
    Entered true (Both (shape_shows s) (shape_shows t)) a b r → EntersShape (Beside s t) a b r
enters_both {s} {t} h = enters_as h
    (λ f (g, k, y, z, e). e ∙ (λ i. followed_by (shown_alone y i) (shown_alone z i)))
    (forest_of s, forest_of t, is_shape refl, is_shape refl, refl)

-- No entry was entered.
pub enters_nothing : {a b : _} {r : Result (Unit {0}) Refusal} → Entered true Nothing a b r → EntersShape NoEntry a b r
enters_nothing h = enters_as h (λ f x. x) refl

-- The entry of a sum that is there was entered, with the shape inside it.
pub enters_entry : (x : Width) {k : Key} {sum : Sum} {s : Shape} {a b : _} {r : Result (Unit {0}) Refusal} →
    0 < sum.count → Entered true (InsideAs (is_unique x) k sum.bytes (shape_shows s)) a b r →
    EntersShape (EntryAt x k sum s) a b r
enters_entry x {k} {sum} {s} some h =
    let there : is_there sum ≡ true = grind (arith, some) in
    let e = ap (λ (y : Bool). entry_counted y (is_unique x) k sum.bytes (forest_of s)) there in
    enters_as h (λ f (g, y, i). i ∙ ap (entry_of (is_unique x) k sum.bytes) (shown_alone y) ∙ sym e)
    (forest_of s, is_shape refl, e)

-- A call that enters nothing and returns Ok has entered the entry of a sum that is not there.
pub enters_none : (x : Width) {k : Key} {sum : Sum} {s : Shape} (a : _) → sum.count ≡ 0 →
    EntersShape (EntryAt x k sum s) a a (Ok tt)
enters_none x {k} {sum} {s} a none =
    let there : is_there sum ≡ false = rw none refl in
    let e = ap (λ (y : Bool). entry_counted y (is_unique x) k sum.bytes (forest_of s)) there in record {
      entered = entered_none a
          (record { means = λ f a. is_shape (a ∙ sym e); declared = λ j d. (Empty, refl, tt) });
    }
