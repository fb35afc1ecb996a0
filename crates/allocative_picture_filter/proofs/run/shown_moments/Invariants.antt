-- of shown_moments: the invariant of its loop
use Rattle.std.proofs.Common.{◌≡◌, true, map}
use Rattle.std.specs.List.{AllZip}
use Rattle.allocative_graph.specs.Graph.{Graph, total}
use Rattle.allocative_picture.specs.Views.{new_key}
use Rattle.allocative_picture_filter.specs.Run.{IsMomentShown, is_outlined}
use Rattle.allocative_picture_filter.proofs.run.shown_moments.Given as goal

-- What is shown of the moments before this one is made, and has their bytes.
abbrev pub invariant-loop-moment : goal.invariant-loop-moment
invariant-loop-moment l = record {
  shown : (u : Graph) → (is_outlined l.asked ≡ true → l.guide ≡ u)
      → AllZip (IsMomentShown l.asked (new_key l.names) u) l.yielded l.made.items;
  totals : map (λ m. total m.graph) l.made.items ≡ map (λ m. total m.graph) l.yielded;
}
