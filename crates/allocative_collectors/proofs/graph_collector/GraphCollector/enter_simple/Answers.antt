-- The tree has one more entry, and the current place stays.
use Rattle.std.proofs.Common.{false, ap, ◌∙◌, arith}
use Rattle.allocative_collectors.proofs.Common.{Live, enter_live, leave_live}
use Rattle.allocative_collectors.proofs.Arena.{length_entered}
use Rattle.allocative_collectors.proofs.Collect.{placed_added, fits_map, live_added}
use Rattle.allocative_collectors.proofs.graph_collector.GraphCollector.enter_simple.Goals as goal

pub invariant_of-self-2 : goal.invariant_of-self-2
invariant_of-self-2 c = placed_added c.self.invariant c.in_ok-enter.ensures.entered c.self.inside.current
    (omega (arith, length_entered c.in_ok-enter.ensures.entered.is, c.self.invariant.here))

pub returns-clause-ok : goal.returns-clause-ok
returns-clause-ok c =
    let i = c.self.inside in
    let ok = c.in_ok-enter.ensures.entered in (
      fits_map c.self.invariant ok i.met.keys i.is_rooted c.self.view_is,
      live_added c.self.invariant ok i.met.keys i.is_rooted
          ∙ ap (λ (v : Live). leave_live (enter_live false c.args.key.now c.args.size v)) c.self.view_is,
    )
