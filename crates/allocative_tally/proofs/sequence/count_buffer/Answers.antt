-- of count_buffer: no buffer, or one with its items
use Rattle.allocative.proofs.Common.{without_room, without_size}
use Rattle.allocative_tally.proofs.{◌≡◌, ◌∙◌, ◌-◌, length, Some, refl, sym, ap, arith, tallies_none}
use Rattle.allocative_tally.proofs.{slice_each, slice_one, buffer_counts, told_by}
use Rattle.allocative_tally.proofs.sequence.count_buffer.Goals as goal

pub returns-then-size-eq0 : goal.returns-then-size-eq0
returns-then-size-eq0 g c =
    let none = sym c.size.ensures ∙ (c.in-Some.is ∙ ap Some c.if-size-eq0.true) in
    record { along = λ xs y count cut. tallies_none (without_size none refl) }

pub returns-then-max-eq0 : goal.returns-then-max-eq0
returns-then-max-eq0 g c =
    let is = sym c.size.ensures ∙ c.in-Some.is in
    record { along = λ xs y count cut. tallies_none (without_room is (omega arith) (omega arith) refl) }

pub returns-then-are_shown_each : goal.returns-then-are_shown_each
returns-then-are_shown_each g c =
    let is = sym c.size.ensures ∙ c.in-Some.is in
    let each = rw is at (sym c.are_shown_each.ensures ∙ c.if-are_shown_each.true) in record {
      along = λ xs y count cut.
          let unused : c.saturating_sub-unused.result ≡ c.args.capacity - length xs = omega (arith, count) in
          rw (count, is) ((buffer_counts cut c.and.ensures (omega arith) (omega (arith, count))
          (rw is at g.met.T.Tallied.whole) (slice_each cut each (rw is at (c.count_run-run.ensures.along xs y)))
          (told_by c.add.result (rw (count, unused) at c.add.ensures))).told);
    }

pub returns : goal.returns
returns g c =
    let is = sym c.size.ensures ∙ c.in-Some.is in
    let one = rw is at (sym c.are_shown_each.ensures ∙ c.if-are_shown_each.false) in record {
      along = λ xs y count cut.
          let unused : c.saturating_sub-unused.result ≡ c.args.capacity - length xs = omega (arith, count) in
          rw (count, is) ((buffer_counts cut refl (omega arith) (omega (arith, count)) (rw is at g.met.T.Tallied.whole)
          (slice_one cut one) (told_by c.add-2.result (rw (count, unused) at c.add-2.ensures))).told);
    }
