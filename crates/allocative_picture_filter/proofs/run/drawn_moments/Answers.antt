-- of drawn_moments: ok and too_large
use Rattle.std.proofs.Common.{◌≤◌, ◌^◌, ◌∙◌, ap, string_bytes, subst}
use Rattle.allocative_picture.specs.History.{IsHistoryPicture}
use Rattle.allocative_picture.specs.Views.{new_key}
use Rattle.allocative_picture_filter.proofs.Common.{IfOk-weaker}
use Rattle.allocative_picture_filter.proofs.Moments.{same-ends}
use Rattle.allocative_picture_filter.specs.Run.{guide_of_moments}
use Rattle.allocative_picture_filter.proofs.run.drawn_moments.Goals as goal

-- The picture of what is shown of the moments is drawn.
pub returns-clause-ok : goal.returns-clause-ok
returns-clause-ok c =
    let names = new_key c.in_ok-names.names in
    let guide = guide_of_moments c.args.asked.now names in
    IfOk-weaker c.history_picture.result _ _ (λ made is. record {
      names = names;
      moments = c.in_ok-shown.shown.items;
      shown = c.in_ok-shown.ensures.shown (guide c.args.moments.items)
          (λ out. c.in_ok-guide.ensures.guide out ∙ ap guide c.as_slice-2.ensures.value);
      o = c.options_of.result;
      options = c.options_of.ensures;
      is = subst (λ ms. IsHistoryPicture c.options_of.result 8 ms (string_bytes made)) c.as_slice-3.ensures.value is;
    }) c.history_picture.ensures.text

-- What is shown of a moment has its bytes.
pub returns-clause-too_large : goal.returns-clause-too_large
returns-clause-too_large c = λ refused.
    subst (λ n. 2 ^ 64 ≤ n) (same-ends _ _ c.in_ok-shown.ensures.totals)
    (rw c.as_slice-3.ensures.value at (c.history_picture.ensures.too_large.0 refused))
