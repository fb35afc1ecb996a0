-- The entry is opened in the collector that there is.
use Rattle.std.proofs.Common.{sym, ap, refl}
use Rattle.allocative.proofs.Common.{OfGraph, OfSum}
use Rattle.allocative.proofs.Making.{opens_entered}
use Rattle.allocative.proofs.visitor.collector.Collector.open_entry.Goals as goal

pub returns-in-Ok-clause-opens : goal.returns-in-Ok-clause-opens
returns-in-Ok-clause-opens c =
    let ok = c.in-Ok.ensures.ok in
    opens_entered c.in-Some.size (OfGraph c.in-Graph.graph) (OfGraph c.enter.new.self) c.in-Some.is
    (sym (rw c.in-Graph.is at c.self.view_is)) ok.0 c.none.ensures (ap OfGraph ok.1) refl

pub returns-in-Ok-enter-clause-opens : goal.returns-in-Ok-enter-clause-opens
returns-in-Ok-enter-clause-opens c =
    let ok = c.in-Ok-enter.ensures.ok in
    opens_entered c.in-Some.size (OfSum c.in-Sum.sum) (OfSum c.enter-in-Sum.new.self) c.in-Some.is
    (sym (rw c.in-Sum.is at c.self.view_is)) ok.0 ok.1 (ap OfSum ok.2) refl
