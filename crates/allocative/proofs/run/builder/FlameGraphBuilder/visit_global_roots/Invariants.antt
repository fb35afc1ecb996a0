-- The roots so far were visited.
use Rattle.std.proofs.Common.{Ok, take}
use Rattle.allocative.proofs.Common.{each_shows, VisitsRoot}
use Rattle.allocative.proofs.run.builder.FlameGraphBuilder.visit_global_roots.Given as goal

abbrev pub invariant-loop-root : goal.invariant-loop-root
invariant-loop-root g l =
    VisitsRoot (each_shows (λ b. (goal.Allocative-dyn g (b.vtable, b.value)).may_show b.value)
    (take l.root-index l.roots)) l.initial.self (Ok tt) l.self
