-- The tree has one more entry, and the current place is that of the entry.
use Rattle.allocative_collectors.proofs.Collect.{placed_added, fits_map, gone_down}
use Rattle.allocative_collectors.proofs.graph_collector.GraphCollector.enter.Goals as goal

pub invariant_of-self-2 : goal.invariant_of-self-2
invariant_of-self-2 c = placed_added c.self.invariant c.in_ok-self-inside.ensures.entered c.in_ok-self-inside.field-0
    c.in_ok-self-inside.ensures.entered.is.within

pub returns-clause-ok : goal.returns-clause-ok
returns-clause-ok c =
    let i = c.self.inside in
    let entered = c.in_ok-self-inside.ensures.entered in (
      fits_map c.self.invariant entered i.met.keys i.is_rooted c.self.view_is,
      gone_down c.self.invariant entered i.met.keys i.is_rooted c.self.view_is,
    )
