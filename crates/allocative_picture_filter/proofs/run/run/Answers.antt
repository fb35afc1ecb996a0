-- of run: unwritten and stopped
use Rattle.allocative_picture_filter.proofs.Common.{IfSome_then}
use Rattle.allocative_picture_filter.proofs.Faults.{holds-of, made-unwritten}
use Rattle.allocative_picture_filter.proofs.run.run.Goals as goal

-- No fault before the writing is one of it.
pub returns-in_err-made-clause-unwritten : goal.returns-in_err-made-clause-unwritten
returns-in_err-made-clause-unwritten g c =
    holds-of c.from_residual.result _ _ c.from_residual.ensures.1
    (λ e. IfSome_then (g.R.Read.remaining c.args.input.now) c.in_err-made.ensures.stops
    (λ known h. absurd (made-unwritten c.args.asked.now c.args.before.now c.args.after.now known (rw e at h))))
