-- of shown_moment: shown
use Rattle.std.proofs.Common.{refl, ◌∙◌}
use Rattle.allocative_picture_filter.proofs.run.shown_moment.Goals as goal

-- What is shown of the turned graph, by a copy of the guide, is shown of the moment.
pub returns-clause-shown : goal.returns-clause-shown
returns-clause-shown c = λ u same. record {
  name = refl;
  shown = rw c.in_ok-turned.ensures.turned at
      (c.in_ok-shown.ensures.shown u (λ out. c.in_ok-clone.ensures.cases ∙ same out));
}
