-- The items so far were entered.
use Rattle.std.proofs.Common.{Ok, map}
use Rattle.allocative.proofs.Common.{each_shows, Entered, Done}
use Rattle.allocative.specs.Making.{MakesPlanOrGives}
use Rattle.allocative.proofs.visitor.Visitor.visit_run.Given as goal

abbrev pub invariant-loop-item : goal.invariant-loop-item
invariant-loop-item g l =
    Entered g.E.EnterItem.is_strict (each_shows (g.E.EnterItem.may_show l.how) (map g.E.EnterItem.seen l.yielded))
    l.fn.self l.self (Ok tt)
    × MakesPlanOrGives g.I.Iterator.next_gives l.initial.item-iterator Done l.fn.self l.self (Ok tt)
