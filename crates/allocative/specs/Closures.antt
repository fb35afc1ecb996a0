-- What a closure that visits does to its visitor.
use Rattle.std.specs.Prelude.{◌≡◌, ℕ, false, Result, Ok, Err, IfErr, Some}
use Rattle.std.specs.Borrow.{MutBor}
use Rattle.std.specs.Fn.{Once, FnOnceReturnsAtMut}
use Rattle.allocative_graph.specs.declared.refusal.Refusal.{Refusal}
use Rattle.allocative_graph.specs.Path.{Key}
use Rattle.allocative_graph.specs.Collector.{State, Going, OfSum, Restore, nothing_held, close_entry}
use Rattle.allocative_graph.specs.Visits.{HasFailed, OpensEntry, Settles, ClosesEntry}
use Rattle.allocative.specs.declared.visitor.Visitor.{Visitor}
use Rattle.allocative.specs.Kinds.{IsSum}
use Rattle.allocative.specs.Visited.{OpensRootAt, Refused}

-- What is answered of a collector of a sum: the sum if it has not failed and no visitor is out, else the first
-- cause, or Open.
abbrev pub AnswersSum : State → Result ℕ Refusal → Type 0
AnswersSum s (Ok n) = Settles s (Ok tt) × IsSum s n
AnswersSum s (Err e) = Settles s (Err e)

module _ {F : Type 0}
    (g : Once F (MutBor Visitor × Unit {0}) (Result (Unit {0}) Refusal × (MutBor Visitor × Unit {0}))) (f : F) where
  -- A call returns the visitor with the collector that it was given, and at its place.
  abbrev pub KeepsVisitor : Type 0
  KeepsVisitor = (x y : Visitor) (r : Result (Unit {0}) Refusal) → FnOnceReturnsAtMut g f x r y
      → (y.collector.ghost_name ≡ x.collector.ghost_name) × (y.outer ≡ x.outer)

  -- The closure was called at the visitor and told Ok. Or it told an error, with which the collector failed unless it
  -- had failed before; the first cause is returned.
  pub data Tells (old new : Visitor) : Result (Unit {0}) Refusal → Type 0 where
    told_ok : {u : Unit} → FnOnceReturnsAtMut g f old (Ok u) new → Tells old new (Ok u)
    told_err : {after : Visitor} {e cause : Refusal} → FnOnceReturnsAtMut g f old (Err e) after
        → Refused e after new cause → Tells old new (Err cause)

  -- The closure was called at the visitor, which stays where it was, and an Err is the collector's first cause.
  pub record CalledAt (old new : Visitor) (r : Result (Unit {0}) Refusal) : Type 0 where
    pub tells : Tells old new r
    pub same_reference : new.collector.ghost_name ≡ old.collector.ghost_name
    pub same_outer : new.outer ≡ old.outer
    pub cause : IfErr r (HasFailed new.collector.now)

  -- The closure's entry is refused as entering says. Or the closure is called at a visitor at the entry, and the entry
  -- is closed.
  pub data CallsInside (k : Key) (n : ℕ) (s : State) (t : State) : Result (Unit {0}) Refusal → Type 0 where
    not_called : {e : Refusal} → OpensEntry false k (Some n) s (Err e) t → CallsInside k n s t (Err e)
    called_inside : {o : Restore} {x y : Visitor} {r : Result (Unit {0}) Refusal}
        → OpensEntry false k (Some n) s (Ok o) x.collector.now → CalledAt x y r → ClosesEntry o y.collector.now t
        → CallsInside k n s t r

  -- The visitor stays where it was, the closure was called inside an entry as `CallsInside` says, and an Err is the
  -- collector's first cause.
  pub record CalledInside (k : Key) (n : ℕ) (old new : Visitor) (r : Result (Unit {0}) Refusal) : Type 0 where
    pub same_reference : new.collector.ghost_name ≡ old.collector.ghost_name
    pub same_outer : new.outer ≡ old.outer
    pub calls : CallsInside k n old.collector.now new.collector.now r
    pub cause : IfErr r (HasFailed new.collector.now)

  -- The closure was called at a root visitor of a collector that holds nothing, and the visitor was left; the answer
  -- is what is answered of the collector then.
  pub record CalledAtRoot (answer : Result ℕ Refusal) : Type 0 where
    pub before : Visitor
    pub after : Visitor
    pub begun : OpensRootAt (Going (OfSum nothing_held)) before
    pub called : (r : Result (Unit {0}) Refusal) × CalledAt before after r
    pub answers : AnswersSum (close_entry after.outer after.collector.now) answer
