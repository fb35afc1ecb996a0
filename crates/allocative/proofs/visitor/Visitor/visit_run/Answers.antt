-- One more item is entered, and the run ends.
use Rattle.std.proofs.Common.{rules}
use Rattle.allocative.proofs.Making.{only_if_full_failed, kept_after, run_gives}
use Rattle.allocative.proofs.Visits.{same_err}
use Rattle.allocative.proofs.Runs.{entered_next, entered_run, along_run, along_refused}
use Rattle.allocative.proofs.visitor.Visitor.visit_run.Goals as goal

pub loop-item-preserved : goal.loop-item-preserved
loop-item-preserved g c = (
  entered_next g.E.EnterItem.seen (g.E.EnterItem.may_show c.args.how) c.loop-item.yielded c.in-Some.item
      c.loop-item.invariant.0 c.in_ok-enter_item.ensures,
  run_gives _ c.loop-item.item-iterator c.loop-item.yielded c.loop-item.yielded_by c.in-Some.ensures.steps,
)

pub returns-in_err-check_failed-clause-only_if_full : goal.returns-in_err-check_failed-clause-only_if_full
returns-in_err-check_failed-clause-only_if_full g c =
    record { along = λ i ys y. only_if_full_failed c.in_err-check_failed.ensures }

pub returns-in_err-enter_item-clause-only_if_full : goal.returns-in_err-enter_item-clause-only_if_full
returns-in_err-enter_item-clause-only_if_full g c =
    let l = c.loop-item in
    let is = same_err {e = c.in_err-enter_item.field-0.0} _ c.from_residual-in_err-enter_item.ensures.0 (search rules)
    in
    rw (← c.into_iter-item-iterator.ensures.into_iter_gives)
    (along_refused _ l.item-iterator l.yielded is l.yielded_by c.in-Some.ensures.steps l.invariant.0
    c.in_err-enter_item.ensures)

pub returns-in_err-enter_item-clause-plan : goal.returns-in_err-enter_item-clause-plan
returns-in_err-enter_item-clause-plan g c =
    rw (← c.into_iter-item-iterator.ensures.into_iter_gives)
    (run_gives _ c.loop-item.item-iterator c.loop-item.yielded c.loop-item.yielded_by c.in-Some.ensures.steps)

pub returns : goal.returns
returns g c =
    let l = c.loop-item in
    rw (← c.into_iter-item-iterator.ensures.into_iter_gives) (record {
      entered = entered_run l.yielded (c.next.new.self, (l.item-iterator, l.yielded_by, c.in-None.ensures.steps))
          l.invariant.0;
      only_if_full = along_run l.yielded (c.next.new.self, (l.item-iterator, l.yielded_by, c.in-None.ensures.steps))
          l.invariant.0;
      kept = kept_after c.in_ok-check_failed.ensures;
      plan = l.invariant.1;
    })
