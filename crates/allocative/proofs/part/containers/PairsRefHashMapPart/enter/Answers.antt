-- The iterator gives the items.
use Rattle.std.proofs.lemmas.Iterator.Consumers.{YieldsList-from_rest}
use Rattle.allocative.proofs.Runs.{entered_any_order}
use Rattle.allocative.proofs.part.containers.PairsRefHashMapPart.enter.Goals as goal

pub returns : goal.returns
returns g c = entered_any_order (YieldsList-from_rest _ c.iter.ensures.rest) c.visit_run.ensures.entered
    c.visit_run.ensures.only_if_full
