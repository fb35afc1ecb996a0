-- One more root is visited, or refused.
use Rattle.std.proofs.Common.{rules}
use Rattle.allocative.proofs.Visits.{same_err}
use Rattle.allocative.proofs.Roots.{only_if_full_indexed}
use Rattle.allocative.proofs.run.builder.FlameGraphBuilder.visit_values.Goals as goal

pub returns-in_err-visit_value-clause-only_if_full : goal.returns-in_err-visit_value-clause-only_if_full
returns-in_err-visit_value-clause-only_if_full g c = rw (← c.in_ok-check.ensures.same)
    (only_if_full_indexed g.T.Allocative.is_strict g.T.Allocative.is_strict g.T.Allocative.may_show c.args.roots.now
    c.loop-root.root-index c.root-item.result
    c.check.new.self c.loop-root.self c.visit_value.new.self tt (λ strict. strict)
    (same_err {e = c.in_err-visit_value.field-0.0} _ c.from_residual-in_err-visit_value.ensures.0 (search rules))
    c.loop-root.invariant c.in_err-visit_value.ensures.only_if_full c.loop-root-test.true c.root-item.is)
