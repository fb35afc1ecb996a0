-- of Visitor::visit_unused: plan
use Rattle.allocative.proofs.visitor.Visitor.visit_unused.Goals as goal

pub returns-clause-plan : goal.returns-clause-plan
returns-clause-plan g c = rw c.new.ensures at c.visit_total_bytes.ensures.plan
