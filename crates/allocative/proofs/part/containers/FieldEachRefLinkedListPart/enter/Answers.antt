-- The iterator gives the items.
use Rattle.std.proofs.lemmas.Iterator.Consumers.{YieldsList-from_rest}
use Rattle.allocative.proofs.Runs.{entered_list}
use Rattle.allocative.proofs.part.containers.FieldEachRefLinkedListPart.enter.Goals as goal

pub returns : goal.returns
returns g c = entered_list (YieldsList-from_rest _ c.iter.ensures.rest)
    (rw c.into_key.ensures at c.visit_run.ensures.entered) (rw c.into_key.ensures at c.visit_run.ensures.only_if_full)
