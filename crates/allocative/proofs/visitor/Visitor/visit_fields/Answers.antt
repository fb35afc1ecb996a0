-- The iterator gives the items.
use Rattle.std.proofs.lemmas.Iterator.{YieldsList-from_slice}
use Rattle.allocative.proofs.Runs.{entered_list}
use Rattle.allocative.proofs.visitor.Visitor.visit_fields.Goals as goal

pub returns-clause-entered : goal.returns-clause-entered
returns-clause-entered g c = entered_list (YieldsList-from_slice _ c.iter.ensures.rest) c.visit_run.ensures.entered
    c.visit_run.ensures.only_if_full
