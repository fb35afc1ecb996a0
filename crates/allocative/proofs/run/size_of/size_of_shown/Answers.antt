-- The collector is still that of a flame graph, and an error is what the visit left. The forest of the profile is a
-- whole one, and the graph is that of its entries.
use Rattle.std.proofs.Common.{rules, Ok, ◌∙◌, ap, inr, refl}
use Rattle.allocative_graph.specs.Forest.{all}
use Rattle.allocative_graph.specs.Graph.{total}
use Rattle.allocative_graph.specs.Collector.{Going, OfGraph, no_entries}
use Rattle.allocative.proofs.Roots.{graph_kept, profile_ended, root_visited, visit_answered}
use Rattle.allocative.proofs.Visits.{same_err}
use Rattle.allocative.proofs.run.size_of.size_of_shown.Goals as goal

pub finish-requires : goal.finish-requires
finish-requires g c = graph_kept (g.T.Allocative.may_show c.args.root.now) (Going (OfGraph no_entries)) _ (Ok tt)
    (rw c.in_ok-collector.ensures at (root_visited c.in_ok-visit_value.ensures))

pub returns-in_err-visit_value-clause-answer : goal.returns-in_err-visit_value-clause-answer
returns-in_err-visit_value-clause-answer g c =
    let e = c.in_err-visit_value.field-0.0 in
    rw (same_err {e = e} _ c.from_residual-in_err-visit_value.ensures.0 (search rules))
    (inr (visit_answered c.in_err-visit_value.ensures c.in_ok-collector.ensures refl (λ k. k)))

pub returns-clause-shown : goal.returns-clause-shown
returns-clause-shown g c =
    let made = profile_ended _ _ _ _ (Ok c.in_ok-profile.profile)
    (root_visited c.in_ok-visit_value.ensures) c.in_ok-collector.ensures c.in_ok-profile.ensures.ends in
    let is = made.graph_is (all made.shown) made.meaning in (
      c.in_ok-profile.profile.graph,
      record { shown = made.shown; allowed = made.allowed; whole = made.whole; is = is },
      c.total_size.ensures.total ∙ ap total c.flamegraph.ensures,
    )
