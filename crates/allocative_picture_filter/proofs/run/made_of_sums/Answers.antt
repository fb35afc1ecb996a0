-- of made_of_sums: stops and ok
use Rattle.std.proofs.Common.{◌≡◌, refl, sym, ap, ◌∙◌, arith, inl, inr, true≢false}
use Rattle.allocative_picture_filter.proofs.Common.{total}
use Rattle.allocative_picture_filter.proofs.Faults.{stops-joining, holds-of}
use Rattle.allocative_picture_filter.specs.Run.{part_of}
use Rattle.allocative_picture_filter.proofs.run.made_of_sums.Goals as goal

-- What stops the later profile stops the run, once the earlier one is made.
pub returns-in_err-later-clause-stops : goal.returns-in_err-later-clause-stops
returns-in_err-later-clause-stops c =
    holds-of c.from_residual-in_err-later.result _ _ c.from_residual-in_err-later.ensures.1
    (inr (c.in_ok-earlier.earlier, c.in_ok-earlier.ensures.ok, inl c.in_err-later.ensures.stops))

-- Memory stops the making of a part.
pub returns-in_err-earlier_part-clause-stops : goal.returns-in_err-earlier_part-clause-stops
returns-in_err-earlier_part-clause-stops c =
    holds-of c.from_residual-in_err-earlier_part.result _ _ c.from_residual-in_err-earlier_part.ensures.1
    (inr (
      c.in_ok-earlier.earlier,
      c.in_ok-earlier.ensures.ok,
      inr (inr (c.in_ok-later.later, c.in_ok-later.ensures.ok, tt)),
    ))

pub returns-in_err-later_part-clause-stops : goal.returns-in_err-later_part-clause-stops
returns-in_err-later_part-clause-stops c =
    holds-of c.from_residual-in_err-later_part.result _ _ c.from_residual-in_err-later_part.ensures.1
    (inr (
      c.in_ok-earlier.earlier,
      c.in_ok-earlier.ensures.ok,
      inr (inr (c.in_ok-later.later, c.in_ok-later.ensures.ok, tt)),
    ))

-- The profile is refused.
pub returns-then-is_refused-clause-stops : goal.returns-then-is_refused-clause-stops
returns-then-is_refused-clause-stops c =
    let refused = c.is_refused.ensures.0 c.if-is_refused.true in
    inr (
      c.in_ok-earlier.earlier,
      c.in_ok-earlier.ensures.ok,
      inr (inl (
        c.in_ok-later.later,
        c.in_ok-later.ensures.ok,
        refused.0,
        ap total (sym c.in_ok-later_part.ensures) ∙ refused.1,
        refl,
      )),
    )

-- Memory stops the making, or the bytes of a change that exceed a word.
pub returns-in_err-made_of-clause-stops : goal.returns-in_err-made_of-clause-stops
returns-in_err-made_of-clause-stops c =
    let refused = rw (c.is_change-change.ensures, c.in_ok-earlier_part.ensures, c.in_ok-later_part.ensures)
    at (stops-joining _ c.in_err-made_of.field-0.0 c.in_err-made_of.ensures.too_large) in
    holds-of c.from_residual-in_err-made_of.result _ _ c.from_residual-in_err-made_of.ensures.1
    (inr (
      c.in_ok-earlier.earlier,
      c.in_ok-earlier.ensures.ok,
      inr (inr (c.in_ok-later.later, c.in_ok-later.ensures.ok, refused)),
    ))

-- What is made is what the arguments ask for.
pub returns-clause-ok : goal.returns-clause-ok
returns-clause-ok c = record {
  earlier = c.in_ok-earlier.earlier;
  later = c.in_ok-later.later;
  earlier_read = c.in_ok-earlier.ensures.ok;
  later_read = c.in_ok-later.ensures.ok;
  some = λ asked.
      let some : total (part_of c.args.asked.now c.in_ok-later.later) ≡ 0 → ⊥ =
      λ none. true≢false (sym (c.is_refused.ensures.1 (asked, ap total c.in_ok-later_part.ensures ∙ none))
      ∙ c.if-is_refused.false) in
      omega (arith, some);
  names = c.in_ok-made_of.ensures.ok.0;
  shows = rw (c.is_change-change.ensures, c.in_ok-earlier_part.ensures, c.in_ok-later_part.ensures) at
      c.in_ok-made_of.ensures.ok.1;
}
