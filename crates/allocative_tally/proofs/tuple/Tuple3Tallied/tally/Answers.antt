-- of a tuple's tally: its entry, and inside it each field
use Rattle.allocative_tally.proofs.{whole_counts, both_count, field_counts, holding_tuples}
use Rattle.allocative_tally.proofs.tuple.Tuple3Tallied.tally.Goals as goal

pub returns : goal.returns
returns g c = whole_counts _ c.in_ok-declared.ensures (search holding_tuples depth 6)
    (both_count c.and-2.ensures (field_counts _ _ _ _ _ _ c.tally-first.ensures)
    (both_count c.and.ensures (field_counts _ _ _ _ _ _ c.tally-second.ensures)
    (field_counts _ _ _ _ _ _ c.tally-third.ensures)))
