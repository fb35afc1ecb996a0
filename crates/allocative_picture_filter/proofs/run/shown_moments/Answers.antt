-- of shown_moments: the step of its loop
use Rattle.std.proofs.Common.{◌≡◌, ◌∷◌, [], ◌++◌, refl}
use Rattle.allocative_picture.specs.Views.{new_key}
use Rattle.allocative_picture_filter.proofs.Common.{map-append}
use Rattle.allocative_picture_filter.proofs.Moments.{zip-push}
use Rattle.allocative_picture_filter.specs.Run.{IsMomentShown}
use Rattle.allocative_picture_filter.proofs.run.shown_moments.Goals as goal

-- What is shown of one moment more is made.
pub loop-moment-preserved : goal.loop-moment-preserved
loop-moment-preserved c =
    let l = c.loop-moment in
    let one = c.in_ok-shown_moment.field-0 in
    let pushed : c.push.new.self.items ≡ l.made.items ++ one ∷ [] = c.in_ok-push.ensures.items in
    record {
      shown = λ u same. rw pushed (zip-push (IsMomentShown c.args.asked.now (new_key c.args.names.now) u) l.yielded
          l.made.items c.in-Some.moment one (l.invariant.shown u same) (c.in_ok-shown_moment.ensures.shown u same));
      totals = rw (pushed, map-append, map-append, l.invariant.totals, c.in_ok-shown_moment.ensures.total) refl;
    }
