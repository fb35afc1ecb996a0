-- of make: stops and ok, of a history and of sums
use Rattle.std.proofs.Common.{◌∙◌, ap, inr, map, subst, string_bytes}
use Rattle.allocative_picture_filter.proofs.Common.{IfSome_then, IfOk-weaker, IfErr-weaker}
use Rattle.allocative_picture_filter.proofs.Faults.{chosen, otherwise}
use Rattle.allocative_picture_filter.specs.Run.{sourced, IsMadeOfMoments, IsMadeOfSums, StopsMoments, StopsSums}
use Rattle.allocative_picture_filter.proofs.run.make.Goals as goal

-- The picture of a history is made.
pub returns-then-asked-clause-ok : goal.returns-then-asked-clause-ok
returns-then-asked-clause-ok g c =
    IfOk-weaker c.made_of_moments.result _ _
    (λ made is. IfSome_then (g.R.Read.remaining c.args.input.now) c.in_ok-texts.ensures.ok
    (λ known e. chosen _ _ c.if-asked.true
    (subst (λ ts. IsMadeOfMoments c.args.asked.now ts (string_bytes made))
    (ap (map sourced) c.as_slice.ensures.value ∙ e) is)))
    c.made_of_moments.ensures.ok

-- What stops a history stops the run.
pub returns-then-asked-clause-stops : goal.returns-then-asked-clause-stops
returns-then-asked-clause-stops g c =
    IfErr-weaker c.made_of_moments.result _ _
    (λ f stops. IfSome_then (g.R.Read.remaining c.args.input.now) c.in_ok-texts.ensures.ok
    (λ known e. inr (chosen _ _ c.if-asked.true
    (subst (λ ts. StopsMoments c.args.asked.now ts f) (ap (map sourced) c.as_slice.ensures.value ∙ e) stops))))
    c.made_of_moments.ensures.stops

-- What is made of sums is made.
pub returns-clause-ok : goal.returns-clause-ok
returns-clause-ok g c =
    IfOk-weaker c.made_of_sums.result _ _
    (λ made is. IfSome_then (g.R.Read.remaining c.args.input.now) c.in_ok-texts.ensures.ok
    (λ known e. otherwise _ _ c.if-asked.false
    (subst (λ ts. IsMadeOfSums c.args.asked.now c.args.before.now ts (string_bytes made))
    (ap (map sourced) c.as_slice-2.ensures.value ∙ e) is)))
    c.made_of_sums.ensures.ok

-- What stops sums stops the run.
pub returns-clause-stops : goal.returns-clause-stops
returns-clause-stops g c =
    IfErr-weaker c.made_of_sums.result _ _
    (λ f stops. IfSome_then (g.R.Read.remaining c.args.input.now) c.in_ok-texts.ensures.ok
    (λ known e. inr (otherwise _ _ c.if-asked.false
    (subst (λ ts. StopsSums c.args.asked.now c.args.before.now ts f)
    (ap (map sourced) c.as_slice-2.ensures.value ∙ e) stops))))
    c.made_of_sums.ensures.stops
