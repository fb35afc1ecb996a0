-- The roots so far were visited.
use Rattle.std.proofs.Common.{Ok, take}
use Rattle.allocative.proofs.Common.{each_shows, VisitsRoot}
use Rattle.allocative.proofs.run.builder.FlameGraphBuilder.visit_values.Given as goal

abbrev pub invariant-loop-root : goal.invariant-loop-root
invariant-loop-root g l = VisitsRoot (each_shows g.T.Allocative.may_show (take l.root-index l.roots)) l.initial.self
    (Ok tt) l.self
