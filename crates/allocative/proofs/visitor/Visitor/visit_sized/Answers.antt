-- of Visitor::visit_sized: entered
use Rattle.allocative.proofs.Making.{entered_alone_sized}
use Rattle.allocative.proofs.visitor.Visitor.visit_sized.Goals as goal

pub returns-clause-entered : goal.returns-clause-entered
returns-clause-entered c = entered_alone_sized c.enter_simple.ensures.made
