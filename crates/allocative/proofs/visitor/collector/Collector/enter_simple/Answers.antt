-- In a graph the entry is made at once. Without one, it is opened and closed.
use Rattle.std.proofs.Common.{Ok, sym, ap, refl, subst}
use Rattle.allocative.proofs.Common.{OfGraph, State, Makes, one}
use Rattle.allocative.proofs.Making.{makes_within, nothing_inside, makes_one}
use Rattle.allocative.proofs.visitor.collector.Collector.enter_simple.Goals as goal

pub returns-in-Graph-clause-made : goal.returns-in-Graph-clause-made
returns-in-Graph-clause-made c =
    let ok = c.in_default-enter_simple.ensures.ok in
    makes_one c.in-Some.bytes (OfGraph c.in-Graph.graph) (OfGraph c.enter_simple.new.self) c.in-Some.is
    (sym (rw c.in-Graph.is at c.self.view_is)) ok.0 (ap OfGraph ok.1) refl

pub returns-clause-made : goal.returns-clause-made
returns-clause-made c =
    let opens = c.in_ok-opened.ensures.opens in
    subst (λ (s : State). Makes (one c.args.key c.args.size) s (Ok tt) c.close_entry.new.self) c.self.view_is
    (rw c.in-Some.is (makes_within opens (nothing_inside tt opens) c.close_entry.ensures))
