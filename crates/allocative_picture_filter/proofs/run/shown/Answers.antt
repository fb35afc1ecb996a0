-- of shown: shown
use Rattle.std.proofs.Common.{refl}
use Rattle.allocative_picture_filter.proofs.Common.{IfOk-weaker}
use Rattle.allocative_picture_filter.proofs.Sums.{shown-so}
use Rattle.allocative_picture_filter.proofs.run.shown.Goals as goal

-- The bytes of the outline by last key are shown.
pub returns-then-asked-clause-shown : goal.returns-then-asked-clause-shown
returns-then-asked-clause-shown c =
    IfOk-weaker c.by_last_key.result _ _
    (λ made is u same. shown-so c.args.asked.now c.args.guide u c.args.graph c.in_ok-outlined.outlined
    made c.in_ok-outlined.ensures.outlined c.in_ok-outlined.ensures.whole (rw c.if-asked.true is) same)
    c.by_last_key.ensures.view

-- The outline is shown.
pub returns-clause-shown : goal.returns-clause-shown
returns-clause-shown c = λ u same.
    shown-so c.args.asked.now c.args.guide u c.args.graph c.in_ok-outlined.outlined c.in_ok-outlined.outlined
    c.in_ok-outlined.ensures.outlined c.in_ok-outlined.ensures.whole (rw c.if-asked.false refl) same
