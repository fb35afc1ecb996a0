-- of Visitor::visit_iter: entered, plan and only if full
use Rattle.std.proofs.Common.{rules, true}
use Rattle.allocative.proofs.Runs.{items_run, plain_run, counted_plain}
use Rattle.allocative.specs.Making.{each_plan, counted_plan}
use Rattle.allocative.proofs.visitor.Visitor.visit_iter.Goals as goal

pub returns-then-are_shown_each-clause-entered : goal.returns-then-are_shown_each-clause-entered
returns-then-are_shown_each-clause-entered g c =
    items_run _ _ _ g.T.Described.layout.needs_drop _ (search rules) c.visit_run.ensures.entered

pub returns-clause-entered : goal.returns-clause-entered
returns-clause-entered g c =
    plain_run {e = true} _ _ _ c.count_of-count.result g.T.Described.layout.needs_drop _ (search rules)
    c.count_of-count.ensures (search rules)

pub returns-then-are_shown_each-clause-plan : goal.returns-then-are_shown_each-clause-plan
returns-then-are_shown_each-clause-plan g c = each_plan (search rules) c.visit_run.ensures.plan

pub returns-clause-plan : goal.returns-clause-plan
returns-clause-plan g c = counted_plan (search rules) c.count_of-count.ensures
    (rw c.for_type_name.ensures at c.visit_total_bytes.ensures.plan)

pub returns-clause-only_if_full : goal.returns-clause-only_if_full
returns-clause-only_if_full g c = counted_plain _ _ _ c.count_of-count.result g.T.Described.layout.needs_drop _
    (search rules)
    c.count_of-count.ensures (rw c.for_type_name.ensures at c.visit_total_bytes.ensures.entered)
