-- of Visitor::visit_run_in_data: an error and the result
use Rattle.std.proofs.Common.{rules}
use Rattle.allocative.proofs.Runs.{data_entered, data_refused}
use Rattle.allocative.proofs.Visits.{same_err}
use Rattle.allocative.proofs.visitor.Visitor.visit_run_in_data.Goals as goal

pub returns-in_err-outer : goal.returns-in_err-outer
returns-in_err-outer g c =
    data_refused (same_err {e = c.in_err-outer.field-0.0} _ c.from_residual.ensures.0 (search rules))
    (rw c.new.ensures at c.in_err-outer.ensures.opens)

pub returns : goal.returns
returns g c =
    let run = c.visit_run-answer.ensures in
    data_entered (rw c.new.ensures at c.in_ok-outer.ensures.opens) run.entered run.only_if_full run.plan
    c.close_entry.ensures
