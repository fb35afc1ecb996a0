-- of made_of_moments: stops and ok
use Rattle.std.proofs.Common.{◌≡◌, refl, sym, ◌∙◌, arith, inl, inr, true≢false}
use Rattle.allocative_picture.specs.History.{last_graph}
use Rattle.allocative_picture_filter.proofs.Common.{total}
use Rattle.allocative_picture_filter.proofs.Faults.{stops-joining, holds-of}
use Rattle.allocative_picture_filter.proofs.run.made_of_moments.Goals as goal

-- Memory stops the drawing, or the bytes of the first and of the last moment that exceed a word.
pub returns-in_err-drawn_moments-clause-stops : goal.returns-in_err-drawn_moments-clause-stops
returns-in_err-drawn_moments-clause-stops c =
    holds-of c.from_residual-in_err-drawn_moments.result _ _ c.from_residual-in_err-drawn_moments.ensures.1
    (inr (
      c.in_ok-moments.moments.items,
      c.in_ok-moments.ensures.ok,
      inr (stops-joining _ c.in_err-drawn_moments.field-0.0 c.in_err-drawn_moments.ensures.too_large),
    ))

-- The last moment is refused.
pub returns-then-is_last_refused-clause-stops : goal.returns-then-is_last_refused-clause-stops
returns-then-is_last_refused-clause-stops c =
    let refused = rw c.as_slice.ensures.value at (c.is_last_refused.ensures.0 c.if-is_last_refused.true) in
    inr (c.in_ok-moments.moments.items, c.in_ok-moments.ensures.ok, inl (refused.0, refused.1, refl))

-- The picture of the history is made.
pub returns-clause-ok : goal.returns-clause-ok
returns-clause-ok c = record {
  moments = c.in_ok-moments.moments.items;
  read = c.in_ok-moments.ensures.ok;
  some = λ asked.
      let some : total (last_graph c.in_ok-moments.moments.items) ≡ 0 → ⊥ =
      λ none. true≢false (sym (c.is_last_refused.ensures.1 (asked, rw c.as_slice.ensures.value none))
      ∙ c.if-is_last_refused.false) in
      omega (arith, some);
  draws = c.in_ok-drawn_moments.ensures.ok;
}
