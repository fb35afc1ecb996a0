-- of made_of_turned: ok and too_large
use Rattle.allocative_picture_filter.proofs.Common.{IfOk-weaker}
use Rattle.allocative_picture_filter.specs.Run.{guide_of}
use Rattle.allocative_picture_filter.proofs.run.made_of_turned.Goals as goal

-- What is written is what the arguments ask for.
pub returns-clause-ok : goal.returns-clause-ok
returns-clause-ok c =
    let u = guide_of c.args.change c.args.earlier c.args.later in
    IfOk-weaker c.written.result _ _ (λ made is. record {
      shown_earlier = c.in_ok-shown_earlier.shown_earlier;
      shown_later = c.in_ok-shown_later.shown_later;
      earlier_shown = λ asked. c.in_ok-shown_earlier.ensures.shown asked u c.in_ok-guide.ensures.guide;
      later_shown = c.in_ok-shown_later.ensures.shown u c.in_ok-guide.ensures.guide;
      is = is;
    }) c.written.ensures.ok

-- What is shown of a graph has its bytes.
pub returns-clause-too_large : goal.returns-clause-too_large
returns-clause-too_large c =
    rw (← c.in_ok-shown_earlier.ensures.total, ← c.in_ok-shown_later.ensures.total) c.written.ensures.too_large
