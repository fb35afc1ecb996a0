-- Written by bin/implement.
use Rattle.std.proofs.Common.{arith, length, rules}
use Rattle.allocative_tally.proofs.Counting.{first_counted, second_counted}
use Rattle.allocative_tally.proofs.Fields.{both_count, case_counted, field_counts, next_as, next_at, next_case, next_foreign, told_then}
use Rattle.allocative_tally.proofs.Items.{foreign_counts}
use Rattle.allocative_tally.proofs.Sizes.{holds_bytes}
use Rattle.allocative_tally.specs.Whole.{as_itself}
use Rattle.std.specs.Path.{path_buf_bytes}
use Rattle.test_generated_types.proofs.received.shown.OriginTallied.tally.Goals as goal

pub returns-in_ok-tally-in-Peer : goal.returns-in_ok-tally-in-Peer
returns-in_ok-tally-in-Peer c =
    next_as (rw c.in-Peer.is as_itself)
    (next_case c.in_ok-declared.ensures
    (first_counted (next_at (omega arith) next_foreign))
    (holds_bytes (omega arith)))

pub returns-in_ok-tally-in-File : goal.returns-in_ok-tally-in-File
returns-in_ok-tally-in-File c =
    (told_then (both_count c.and.ensures
    (foreign_counts {m = length (path_buf_bytes c.in-File.path)} (omega arith) (search rules) c.count_bytes-path.ensures)
    (field_counts _ _ _ _ _ _ c.tally-line.ensures))
    (λ told. next_as (rw c.in-File.is as_itself)
    (next_case c.in_ok-declared.ensures
    (second_counted (case_counted c.in_ok-declared-in-File.ensures (omega arith)
    told
    (holds_bytes (omega arith))))
    (holds_bytes (omega arith))))).told
