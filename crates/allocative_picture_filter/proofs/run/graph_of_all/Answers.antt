-- of graph_of_all: the step of its loop, stops and ok
use Rattle.std.proofs.Common.{arith}
use Rattle.allocative_picture_filter.proofs.Common.{default}
use Rattle.allocative_picture_filter.proofs.Faults.{holds-of}
use Rattle.allocative_picture_filter.proofs.Sums.{stops-at}
use Rattle.allocative_picture_filter.proofs.run.graph_of_all.Goals as goal

-- What stops one text stops them all.
pub returns-in_err-add_text-clause-stops : goal.returns-in_err-add_text-clause-stops
returns-in_err-add_text-clause-stops c =
    holds-of c.from_residual.result _ _ c.from_residual.ensures.1
    (stops-at default c.args.texts.now c.loop-text.text-index _ c.loop-text.graph c.in_err-add_text.field-0.0
    (omega arith) c.loop-text.invariant c.in_err-add_text.ensures.stops)
