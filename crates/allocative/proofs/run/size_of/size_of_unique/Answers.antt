-- What the visit left is answered, with the declared size.
use Rattle.std.proofs.Common.{rules, refl, inl, inr, ◌≡◌, ◌≤◌, ◌+◌, ◌^◌, Some, None}
use Rattle.allocative.proofs.Roots.{visit_answered, visit_refused}
use Rattle.allocative.proofs.run.size_of.size_of_unique.Goals as goal

pub returns-clause-answer : goal.returns-clause-answer
returns-clause-answer g c = visit_answered c.in_ok-visit_value.ensures c.of_sum-collector.ensures (refl, tt)
    (λ k. (c.sum-held.result, c.in-Some.own, (k, c.sum-held.ensures), search rules, search rules))

pub returns-in_default-clause-answer : goal.returns-in_default-clause-answer
returns-in_default-clause-answer g c =
    let none : g.T.Described.layout.size ≡ None = search rules in
    visit_answered c.in_ok-visit_value.ensures c.of_sum-collector.ensures (refl, tt)
    (λ k. inr (c.sum-held.result, (k, c.sum-held.ensures), refl, λ own some. absurd (cc)))

pub returns-in_default-checked_add-clause-answer : goal.returns-in_default-checked_add-clause-answer
returns-in_default-checked_add-clause-answer g c =
    let full : 2 ^ 64 ≤ c.sum-held.result + c.in-Some.own = search rules in
    let is : g.T.Described.layout.size ≡ Some c.in-Some.own = search rules in
    visit_answered c.in_ok-visit_value.ensures c.of_sum-collector.ensures (refl, tt)
    (λ k. inr (
      c.sum-held.result,
      (k, c.sum-held.ensures),
      refl,
      λ own some. let same : c.in-Some.own ≡ own = cc in
          rw (← same) full,
    ))

pub returns-in_err-visit_value-clause-answer : goal.returns-in_err-visit_value-clause-answer
returns-in_err-visit_value-clause-answer g c = visit_refused c.in_err-visit_value.ensures
    c.of_sum-collector.ensures (refl, tt) (λ k. inl k) c.from_residual.ensures.0 (search rules)
