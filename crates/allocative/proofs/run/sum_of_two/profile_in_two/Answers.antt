-- The right collection is refused after the left one was made.
use Rattle.std.proofs.Common.{rules}
use Rattle.allocative.specs.Strict.{right_refused}
use Rattle.allocative.proofs.Visits.{same_err}
use Rattle.allocative.proofs.run.sum_of_two.profile_in_two.Goals as goal

pub returns-in_err-profile_values-2-clause-refused : goal.returns-in_err-profile_values-2-clause-refused
returns-in_err-profile_values-2-clause-refused g c =
    rw (same_err {e = c.in_err-profile_values-2.field-0.0} _ c.from_residual-in_err-profile_values-2.ensures.0
    (search rules))
    (right_refused c.in_ok-profile_values.ensures.profile c.in_err-profile_values-2.ensures.refused)
