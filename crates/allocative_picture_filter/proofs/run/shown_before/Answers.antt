-- of shown_before: shown
use Rattle.std.proofs.Common.{◌∙◌}
use Rattle.allocative_picture_filter.proofs.Common.{IfOk-weaker}
use Rattle.allocative_picture_filter.proofs.run.shown_before.Goals as goal

-- What is shown by a copy of the guide is shown by the guide.
pub returns-clause-shown : goal.returns-clause-shown
returns-clause-shown c = IfOk-weaker c.shown.result _ _
    (λ made is asked u same. is u (λ out. c.in_ok-clone.ensures.cases ∙ same out)) c.shown.ensures.shown
