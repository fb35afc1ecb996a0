-- of written: the pictures
use Rattle.std.proofs.Common.{arith, string_bytes}
use Rattle.allocative_picture_filter.proofs.Common.{IfOk-weaker}
use Rattle.allocative_picture_filter.proofs.Sums.{writes-picture}
use Rattle.allocative_picture_filter.proofs.run.written.Goals as goal

-- The picture of the change is written.
pub returns-then-change-clause-ok : goal.returns-then-change-clause-ok
returns-then-change-clause-ok c =
    let asked = c.args.asked.now in
    IfOk-weaker c.change_picture.result _ _
    (λ made is. writes-picture asked c.args.change c.args.earlier.now c.args.later.now
    c.options_of-options.result (string_bytes made) c.if-asked.false (omega arith) c.options_of-options.ensures
    (rw c.if-change.true is))
    c.change_picture.ensures.text

-- The picture of the later graph is written.
pub returns-else-change-clause-ok : goal.returns-else-change-clause-ok
returns-else-change-clause-ok c =
    let asked = c.args.asked.now in
    IfOk-weaker c.picture.result _ _
    (λ made is. writes-picture asked c.args.change c.args.earlier.now c.args.later.now
    c.options_of-options.result (string_bytes made) c.if-asked.false (omega arith) c.options_of-options.ensures
    (rw c.if-change.false is))
    c.picture.ensures.text
