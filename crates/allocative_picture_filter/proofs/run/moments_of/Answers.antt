-- of moments_of: the step of its loop, and stops
use Rattle.std.proofs.Common.{◌≡◌, ◌∷◌, [], ◌++◌, arith}
use Rattle.allocative_picture_filter.proofs.Common.{Memory}
use Rattle.allocative_picture_filter.proofs.Faults.{holds-of}
use Rattle.allocative_picture_filter.proofs.Moments.{moments-more, stops-memory, stops-reading}
use Rattle.allocative_picture_filter.proofs.run.moments_of.Goals as goal

-- What stops one text stops them all.
pub returns-in_err-moment_of-clause-stops : goal.returns-in_err-moment_of-clause-stops
returns-in_err-moment_of-clause-stops c =
    holds-of c.from_residual.result _ _ c.from_residual.ensures.1
    (stops-reading c.args.asked.now c.args.texts.now c.loop-text.text-index _ c.loop-text.moments.items
    c.in_err-moment_of.field-0.0 (omega arith) c.loop-text.invariant c.in_err-moment_of.ensures.stops)

-- Memory stops them too.
pub returns-in_err-push-clause-stops : goal.returns-in_err-push-clause-stops
returns-in_err-push-clause-stops c =
    holds-of c.from_residual-in_err-push.result _ Memory c.from_residual-in_err-push.ensures.1
    (stops-memory c.args.texts.now c.loop-text.text-index (omega arith))

-- One text more has its moment.
pub loop-text-preserved : goal.loop-text-preserved
loop-text-preserved c =
    let pushed : c.push.new.self.items ≡ c.loop-text.moments.items ++ c.in_ok-moment_of.field-0 ∷ [] =
    c.in_ok-push.ensures.items in
    rw pushed (moments-more c.args.asked.now c.args.texts.now c.loop-text.text-index _ c.loop-text.moments.items
    c.in_ok-moment_of.field-0 (omega arith) c.loop-text.invariant c.in_ok-moment_of.ensures.ok)
