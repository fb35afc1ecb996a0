-- After a simple entry, an identity that was not met before opens its content at the root.
use Rattle.std.proofs.Common.{[], not, sym, ap, ◌∙◌}
use Rattle.allocative_collectors.proofs.Common.{contains, Live, go, live}
use Rattle.std.specs.FinSet.{insert}
use Rattle.allocative_collectors.proofs.Collect.{gone_in, met_more, met_is}
use Rattle.allocative_collectors.proofs.graph_collector.GraphCollector.enter_shared.Goals as goal

pub returns-then-not-branch-clause-ok : goal.returns-then-not-branch-clause-ok
returns-then-not-branch-clause-ok c =
    let i = c.self.inside in
    let entered = c.in_ok-enter_simple.ensures.ok in
    let now = c.self.view_is ∙ entered.1 in
    let same = rw c.if-not-branch.true at c.in_ok-insert.ensures.unchanged in (
      entered.0,
      (
        sym (ap (λ (v : Live). contains v.met c.args.id) now)
            ∙ met_is i.met.keys c.args.id _ c.in_ok-insert.ensures.added ∙ ap not c.if-not-branch.true,
        (λ j. live i.tree (same j) i.current i.places.items i.is_rooted) ∙ now,
      ),
    )

pub returns-clause-ok : goal.returns-clause-ok
returns-clause-ok c =
    let i = c.self.inside in
    let entered = c.in_ok-enter_simple.ensures.ok in
    let now = c.self.view_is ∙ entered.1 in (
      entered.0,
      (
        sym (ap (λ (v : Live). contains v.met c.args.id) now)
            ∙ met_is i.met.keys c.args.id _ c.in_ok-insert.ensures.added ∙ ap not c.if-not-branch.false,
        (λ j. live i.tree c.insert.new.self.keys 0 (c.in_ok-push.ensures.items j) i.is_rooted)
            ∙ gone_in i.tree i.met.keys c.insert.new.self.keys i.current i.places.items i.is_rooted c.args.id
            c.self.invariant.root_path (met_more i.met.keys c.insert.new.self.keys c.args.id
            c.in_ok-insert.ensures.updates.0)
            ∙ ap (λ (v : Live). go [] (record v { met = insert v.met c.args.id })) now,
      ),
    )
