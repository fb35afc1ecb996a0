-- What a caller of `visit_field_with` learns from the closure's outcome.
use Rattle.std.proofs.Common.{rules, ◌≡◌, ℕ, false, Some, Result, Ok, Err, IfErr, MutBor, subst}
use Rattle.allocative.proofs.Common.{Restore, Refusal, Key, State, close_entry, Settles, Visitor, IsSum, ClosesEntry}
use Rattle.allocative.proofs.Common.{FnOnceReturnsAtMut, HasFailed, OpensEntry, with_state}
use Rattle.std.specs.Fn.{Once}
use Rattle.allocative.specs.Closures.{KeepsVisitor, CalledInside, not_called, called_inside}
use Rattle.allocative.specs.Closures.{CalledAt, told_ok, told_err, AnswersSum}
use Rattle.allocative.specs.Visited.{Refused}
use Rattle.allocative.proofs.Visits.{not_entered_cause, close_cause}

-- what is answered once the visitor is left
pub sum_answered : (o : Restore) (c : State) (n : ℕ) {t : State} {q : Result (Unit {0}) Refusal} → ClosesEntry o c t →
    Settles t q → q ≡ Ok tt → IsSum t n → AnswersSum (close_entry o c) (Ok n)
sum_answered o c n {t} l k e s = rw (← l.closes) (subst (Settles t) e k, s)

-- If the collector settles an error once the visitor is left, that error is the answer.
pub refusal_answered : (o : Restore) (c : State) {e : Refusal} {r : Result ℕ Refusal} {t : State}
    {q : Result (Unit {0}) Refusal} → r ≡ Err e → ClosesEntry o c t → Settles t q → q ≡ Err e →
    AnswersSum (close_entry o c) r
refusal_answered o c {t = t} is l k f = rw (← l.closes, is) (subst (Settles t) f k)

-- Closing an entry keeps the cause that is returned.
closed_cause : {o : Restore} {c d : State} (r : Result (Unit {0}) Refusal) → ClosesEntry o c d →
    IfErr r (HasFailed c) → IfErr r (HasFailed d)
closed_cause (Ok u) l h = tt
closed_cause (Err e) l h = close_cause l h

module _ {F : Type 0} (g : Once F (MutBor Visitor × Unit {0}) (Result (Unit {0}) Refusal × (MutBor Visitor × Unit {0})))
    (f : F) where
  -- What a call of a closure returned, and what it left.
  pub returned : {m n : MutBor Visitor} {x y : Visitor} {q r : Result (Unit {0}) Refusal} →
      g.post f (m, tt) (q, (n, tt)) → m.now ≡ x → q ≡ r → n.now ≡ y → FnOnceReturnsAtMut g f x r y
  returned {m} {n} h at is left = rw (← is) (record { shown = m; shows = at; left = n; met = h; leaves = left })

  -- A call of a closure that told Ok.
  pub called_ok : {x y : Visitor} {u : Unit} → KeepsVisitor g f → FnOnceReturnsAtMut g f x (Ok u) y →
      CalledAt g f x y (Ok u)
  called_ok keeps h = let kept = keeps _ _ _ h in search (rules, told_ok)

  -- A call of a closure that told an error, which was refused.
  pub called_err : {x y z : Visitor} {e cause : Refusal} → KeepsVisitor g f → FnOnceReturnsAtMut g f x (Err e) y →
      Refused e y z cause → CalledAt g f x z (Err cause)
  called_err keeps h q = let kept = keeps _ _ _ h in search (rules, told_err)

  -- The closure's entry was refused.
  pub inside_refused : {k : Key} {n : ℕ} {a : Visitor} {t : State} {e : Refusal} {r : Result (Unit {0}) Refusal} →
      r ≡ Err e → OpensEntry false k (Some n) a.collector.now (Err e) t → CalledInside g f k n a (with_state a t) r
  inside_refused is w = rw is (search (rules, not_called, not_entered_cause))

  -- The closure's entry was opened, the closure was called there, and the entry was closed.
  pub inside_called : {k : Key} {n : ℕ} {o : Restore} {a b : Visitor} {t d : State} {r : Result (Unit {0}) Refusal} →
      OpensEntry false k (Some n) a.collector.now (Ok o) t → CalledAt g f (with_state a t) b r →
      ClosesEntry o b.collector.now d → CalledInside g f k n a (with_state b d) r
  inside_called w h l = search (rules, called_inside, closed_cause)
