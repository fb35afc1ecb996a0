-- What deeds show: an error is hidden, returned by hand or returned by a closure, or a visitor is held.
use Rattle.std.proofs.Common.{◌≡◌, ℕ, Bool, false, Result, Ok, Err, IfErr, MutBor, refl}
use Rattle.std.specs.Fn.{Once, FnOnceReturnsAtMut}
use Rattle.allocative.specs.Refusal.{Refusal}
use Rattle.allocative.specs.Path.{Key}
use Rattle.allocative.specs.Collector.{State}
use Rattle.allocative.specs.Shows.{Showing}
use Rattle.allocative.specs.Identity.{Identity}
use Rattle.allocative.specs.Visits.{AddsForest, HasFailed, is_entered, refused, OpensShared, stays_shared}
use Rattle.allocative.specs.Visits.{is_refused_shared, is_too_large_shared}
use Rattle.allocative.specs.declared.visitor.Visitor.{Visitor}
use Rattle.allocative.specs.Closures.{CallsInside, CalledInside, not_called, called_inside, told_ok}
use Rattle.allocative.specs.Visited.{Entered}
use Rattle.allocative.proofs.Strict.{not_strict}
use Rattle.allocative.proofs.Meaning.{entered_refused, entered_loosely}
use Rattle.allocative.proofs.Parts.{parts}
use Rattle.allocative.proofs.ByHand.{by_hand}
use Rattle.allocative.proofs.Showing.{not_entered, adds_hidden, showing}

-- A part that is entered, and whose error is hidden.
pub hides : {d : Bool} {p : Showing} {a b : Visitor} {r : Result (Unit {0}) Refusal} {u : Unit {0}} →
    Entered d p a b r → Entered false p a b (Ok u)
hides {r = Ok v} h = entered_loosely h
hides {r = Err e} h = record {
  same_reference = h.same_reference;
  same_outer = h.same_outer;
  shown = adds_hidden h.shown;
  cause = tt;
  only_if_full = not_strict;
}

-- A shared entry that is refused leaves the cause.
pub not_shared_cause : {k : Key} {n : ℕ} {i : Identity} {s t : State} {e : Refusal} → OpensShared k n i s (Err e) t →
    HasFailed t e
not_shared_cause stays_shared = refl
not_shared_cause (is_refused_shared r) = refl
not_shared_cause (is_too_large_shared i r) = refl

module _ {F : Type 0} (g : Once F (MutBor Visitor × Unit {0}) (Result (Unit {0}) Refusal × (MutBor Visitor × Unit {0})))
    (f : F) where
  -- What is shown if a closure never returns Ok.
  never_ok : {p : Showing} {k : Key} {n : ℕ} {s t : State} (r : Result (Unit {0}) Refusal) → CallsInside g f k n s t r →
      ((x y : Visitor) → FnOnceReturnsAtMut g f x (Ok tt) y → ⊥) → IfErr r (HasFailed t) → AddsForest p s r t
  never_ok (Ok u) (called_inside w h l) never e = elim h.tells [ told_ok c ↦ absurd (never _ _ c) ]
  never_ok (Err x) (not_called w) never e = not_entered w
  never_ok (Err x) (called_inside (is_entered r i j) h l) never e = rw e refused

  -- A closure that never returns Ok enters nothing.
  pub answers : {p : Showing} {k : Key} {n : ℕ} {a b : Visitor} {r : Result (Unit {0}) Refusal} →
      CalledInside g f k n a b r → ((x y : Visitor) → FnOnceReturnsAtMut g f x (Ok tt) y → ⊥) → Entered false p a b r
  answers {r = r} h never = record {
    same_reference = h.same_reference;
    same_outer = h.same_outer;
    shown = never_ok r h.calls never h.cause;
    cause = h.cause;
    only_if_full = not_strict;
  }

-- The rules for deeds.
pub ruleset deeds = (showing, by_hand, parts, hides, entered_refused, not_shared_cause)
