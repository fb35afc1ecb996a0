-- of Visitor::visit_field_with: an error and the result
use Rattle.std.proofs.Common.{rules}
use Rattle.allocative.proofs.Closures.{inside_refused, inside_called}
use Rattle.allocative.proofs.Visits.{same_err}
use Rattle.allocative.proofs.visitor.Visitor.visit_field_with.Goals as goal

pub returns-in_err-outer : goal.returns-in_err-outer
returns-in_err-outer g c = inside_refused _ _
    (same_err {e = c.in_err-outer.field-0.0} _ c.from_residual.ensures.0 (search rules)) c.in_err-outer.ensures.opens

pub returns : goal.returns
returns g c = inside_called _ _ c.in_ok-outer.ensures.opens c.call-answer.ensures c.close_entry.ensures
