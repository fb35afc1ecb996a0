-- of Visitor::visit_simple: entered
use Rattle.allocative.proofs.Meaning.{entered_inline}
use Rattle.allocative.proofs.visitor.Visitor.visit_simple.Goals as goal

pub returns-clause-entered : goal.returns-clause-entered
returns-clause-entered c = entered_inline c.visit_sized.ensures.entered
