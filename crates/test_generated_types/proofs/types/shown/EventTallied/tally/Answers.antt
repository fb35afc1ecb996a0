-- Written by bin/implement.
use Rattle.std.proofs.Common.{arith}
use Rattle.allocative_tally.proofs.Counting.{first_counted, second_counted}
use Rattle.allocative_tally.proofs.Fields.{both_count, case_counted, field_counts, next_as, next_at, next_case, next_fixed, nothing_counted, own_counted, sure_first, told_by, told_then}
use Rattle.allocative_tally.proofs.Sizes.{holds_bytes}
use Rattle.allocative_tally.specs.Whole.{as_itself}
use Rattle.test_generated_types.proofs.types.shown.EventTallied.tally.Goals as goal

pub returns-in-Quiet : goal.returns-in-Quiet
returns-in-Quiet c =
    next_as (rw c.in-Quiet.is as_itself)
    (next_case c.in_ok-declared.ensures
    nothing_counted
    (holds_bytes (omega arith)))

pub returns-in-Note : goal.returns-in-Note
returns-in-Note c =
    (told_then (told_by c.count_own.result c.count_own.ensures)
    (λ told. next_as (rw c.in-Note.is as_itself)
    (next_case c.in_ok-declared.ensures
    (first_counted (own_counted told))
    (holds_bytes (omega arith))))).told

pub returns-in_ok-tally-in-Marked : goal.returns-in_ok-tally-in-Marked
returns-in_ok-tally-in-Marked c =
    next_as (rw c.in-Marked.is as_itself)
    (next_case c.in_ok-declared.ensures
    (second_counted (first_counted (next_at (omega arith) next_fixed)))
    (holds_bytes (omega arith)))

pub returns-in_ok-tally-in-Sale : goal.returns-in_ok-tally-in-Sale
returns-in_ok-tally-in-Sale c =
    (told_then (sure_first
    next_fixed
    (both_count c.and.ensures
    (field_counts _ _ _ _ _ _ c.tally-shelf.ensures)
    (field_counts _ _ _ _ _ _ c.tally-prices.ensures)))
    (λ told. next_as (rw c.in-Sale.is as_itself)
    (next_case c.in_ok-declared.ensures
    (second_counted (second_counted (case_counted c.in_ok-declared-in-Sale.ensures (omega arith)
    told
    (holds_bytes (omega arith)))))
    (holds_bytes (omega arith))))).told
