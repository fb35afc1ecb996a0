-- What the visit left is answered.
use Rattle.std.proofs.Common.{rules, refl}
use Rattle.allocative.proofs.Roots.{visit_answered, visit_refused}
use Rattle.allocative.proofs.run.size_of.size_of_unique_allocated_data.Goals as goal

pub returns-clause-answer : goal.returns-clause-answer
returns-clause-answer g c = visit_answered c.in_ok-visit_object.ensures c.of_sum-collector.ensures (refl, tt)
    (λ k. (k, c.sum.ensures))

pub returns-in_err-visit_object-clause-answer : goal.returns-in_err-visit_object-clause-answer
returns-in_err-visit_object-clause-answer g c = visit_refused c.in_err-visit_object.ensures
    c.of_sum-collector.ensures (refl, tt) (λ k. k) c.from_residual.ensures.0 (search rules)
