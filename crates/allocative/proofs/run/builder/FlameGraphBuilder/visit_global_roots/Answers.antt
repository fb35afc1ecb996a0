-- One more root is visited, or refused.
use Rattle.std.proofs.Common.{rules, Ok, Err, Result, ◌≡◌, arith}
use Rattle.std.proofs.lemmas.Grind.{common_steps}
use Rattle.allocative.proofs.Common.{State, Showing, Refusal, Settles, VisitsRoot}
use Rattle.allocative.proofs.Roots.{visits_one_more, only_if_full_indexed, one_of_all}
use Rattle.allocative.proofs.Visits.{same_err}
use Rattle.allocative.proofs.run.builder.FlameGraphBuilder.visit_global_roots.Goals as goal

pub loop-root-preserved : goal.loop-root-preserved
loop-root-preserved g c =
    visits_one_more (λ b. (goal.Allocative-dyn g (b.vtable, b.value)).may_show b.value) c.roots-roots.result.now
    c.loop-root.root-index c.root-item.result
    c.check.new.self c.loop-root.self c.visit_root.new.self tt tt tt
    c.loop-root.invariant (rw c.as_ref.ensures.1 at c.in_ok-visit_root.ensures.visits_root) c.loop-root-test.true
    c.root-item.is

pub returns-in_err-visit_root-clause-only_if_full : goal.returns-in_err-visit_root-clause-only_if_full
returns-in_err-visit_root-clause-only_if_full g c = rw (← c.in_ok-check.ensures.same) (rw c.roots-roots.ensures at
    (only_if_full_indexed _ _ (λ b. (goal.Allocative-dyn g (b.vtable, b.value)).may_show b.value)
    c.roots-roots.result.now c.loop-root.root-index c.root-item.result
    c.check.new.self c.loop-root.self c.visit_root.new.self tt
    (one_of_all (λ b. (goal.Allocative-dyn g (b.vtable, b.value)).is_strict) c.roots-roots.result.now
    c.loop-root.root-index c.root-item.result c.loop-root-test.true c.root-item.is)
    (same_err {e = c.in_err-visit_root.field-0.0} _ c.from_residual-in_err-visit_root.ensures.0 (search rules))
    c.loop-root.invariant (rw c.as_ref.ensures.1 at c.in_err-visit_root.ensures.only_if_full) c.loop-root-test.true
    c.root-item.is))

-- If a root is refused after others were visited, so are all.
refused_after : (p q r : Showing) (s m t : State) {u v : Unit} {e : Refusal} {w : Result Unit Refusal} → w ≡ Err e →
    Settles s (Ok u) → VisitsRoot p s (Ok v) m → VisitsRoot q m (Err e) t → VisitsRoot r s w t
refused_after p q r s m t is k f h = grind (arith, common_steps)

pub returns-in_err-visit_root-clause-visits_root : goal.returns-in_err-visit_root-clause-visits_root
returns-in_err-visit_root-clause-visits_root g c = rw (← c.in_ok-check.ensures.same)
    (refused_after _ _ _ c.check.new.self c.loop-root.self c.visit_root.new.self
    (same_err {e = c.in_err-visit_root.field-0.0} _ c.from_residual-in_err-visit_root.ensures.0 (search rules))
    c.in_ok-check.ensures.settles c.loop-root.invariant c.in_err-visit_root.ensures.visits_root)
