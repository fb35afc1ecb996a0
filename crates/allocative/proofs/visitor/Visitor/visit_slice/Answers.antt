-- of Visitor::visit_slice: entered
use Rattle.std.proofs.Common.{rules}
use Rattle.allocative.proofs.ContainerMeaning.{entered_plain, entered_one_by_one}
use Rattle.allocative.proofs.visitor.Visitor.visit_slice.Goals as goal

pub returns-then-are_shown_each-clause-entered : goal.returns-then-are_shown_each-clause-entered
returns-then-are_shown_each-clause-entered g c =
    entered_one_by_one _ _ g.T.Described.layout.needs_drop _ _ (search rules) c.visit_each.ensures.entered

pub returns-clause-entered : goal.returns-clause-entered
returns-clause-entered g c = entered_plain _ _ g.T.Described.layout.needs_drop _ _ (search rules) (search rules)
