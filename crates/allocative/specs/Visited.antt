-- What a visit does to the visitor that it was given.
use Rattle.std.specs.Prelude.{◌≡◌, Bool, IsTrue, Result, Ok, Err, IfErr, ⊤}
use Rattle.allocative_graph.specs.declared.refusal.Refusal.{Refusal}
use Rattle.allocative_graph.specs.Forest.{Forest}
use Rattle.allocative_graph.specs.Shows.{Showing}
use Rattle.allocative_graph.specs.Collector.{State, failed_with}
use Rattle.allocative_graph.specs.Visits.{AddsForest, HasFailed, OpensRoot, Settles, ClosesEntry}
use Rattle.allocative.specs.declared.visitor.Visitor.{Visitor}
use Rattle.allocative.specs.Strict.{IsDeclared, FailsOnlyIfFull}

-- What a visit does to its collector: a relation of the collector before, the answer and the collector after.
abbrev pub Effect : Type 1
Effect = State → Result (Unit {0}) Refusal → State → Type 0

-- An effect of which nothing is said.
abbrev pub AnyEffect : Effect
AnyEffect s r t = ⊤

-- The visitor stays where it was, and its collector was shown what p allows, by a visit of this effect. A strict
-- visit refuses only if it must.
pub record Visited (is_strict : Bool) (p : Showing) (effect : Effect) (old new : Visitor)
    (r : Result (Unit {0}) Refusal) : Type 0 where
  pub same_reference : new.collector.ghost_name ≡ old.collector.ghost_name
  pub same_outer : new.outer ≡ old.outer
  pub shown : AddsForest p old.collector.now r new.collector.now
  pub only_if_full : IsTrue is_strict → FailsOnlyIfFull p old.collector.now r new.collector.now
  pub takes_effect : effect old.collector.now r new.collector.now

-- The visitor stays where it was, its collector was shown what p allows, and an Err is the collector's first cause.
-- What is strict refuses only if it must.
pub record Entered (is_strict : Bool) (p : Showing) (old new : Visitor) (r : Result (Unit {0}) Refusal) : Type 0 where
  pub same_reference : new.collector.ghost_name ≡ old.collector.ghost_name
  pub same_outer : new.outer ≡ old.outer
  pub shown : AddsForest p old.collector.now r new.collector.now
  pub cause : IfErr r (HasFailed new.collector.now)
  pub only_if_full : IsTrue is_strict → FailsOnlyIfFull p old.collector.now r new.collector.now

-- The visitor stays where it was; its collector has failed with r unless it had failed before, and the first cause is
-- returned.
pub record Refused (r : Refusal) (old new : Visitor) (cause : Refusal) : Type 0 where
  pub same_reference : new.collector.ghost_name ≡ old.collector.ghost_name
  pub same_outer : new.outer ≡ old.outer
  pub after : new.collector.now ≡ failed_with r old.collector.now
  pub is_cause : HasFailed new.collector.now cause

-- The state of a visitor's collector.
abbrev pub collector_of : Visitor → State
collector_of v = v.collector.now

-- Dropping the visitor v leaves its collector as t: one step back.
abbrev pub Exits : Visitor → State → Type 0
Exits v t = ClosesEntry v.outer v.collector.now t

-- A visit of this effect, which shows p, was made at s and left the collector as t.
pub record WasVisited (p : Showing) (effect : Effect) (s t : State) : Type 0 where
  pub told : Result (Unit {0}) Refusal
  pub shown : AddsForest p s told t
  pub takes_effect : effect s told t

-- The root visitor v was opened at s.
abbrev pub OpensRootAt : State → Visitor → Type 0
OpensRootAt s v = OpensRoot s (Ok v.outer) v.collector.now

-- Every forest that p allows, q allows. For a strict visit, p is also declared if q is.
pub record Means (is_strict : Bool) (p q : Showing) : Type 0 where
  pub means : (f : Forest) → p f → q f
  pub declared : IsTrue is_strict → IsDeclared q → IsDeclared p

-- The first visit is strict only if the second is.
pub record OnlyIf (is_strict is_strict' : Bool) : Type 0 where
  pub follows : IsTrue is_strict → IsTrue is_strict'

-- A visit of this effect by a root visitor, which shows p: no root visitor could be opened, and nothing changes; or it
-- was opened, the visit was made there, the visitor was left, and the result is what the collector settles.
pub data VisitsByRoot (is_strict : Bool) (p : Showing) (effect : Effect) (s t : State) : Result Unit Refusal → Type 0
  where
    not_begun : {e : Refusal} → OpensRoot s (Err e) t → VisitsByRoot is_strict p effect s t (Err e)
    by_root : {v w : Visitor} {told r : Result Unit Refusal} → OpensRootAt s v → Visited is_strict p effect v w told
        → Exits w t → Settles t r → VisitsByRoot is_strict p effect s t r
