-- of what counts a pair: two fields
use Rattle.allocative_tally.proofs.{both_count, field_counts, tallies_to, holds_both, holds_itself, told_then, as_itself}
use Rattle.allocative_tally.proofs.counted.KeyAndValueCountItemTuple2RefRefTuple2TallyTally.count_item.Goals as goal

pub returns : goal.returns
returns g c = (told_then (both_count c.and.ensures (field_counts _ _ _ _ _ _ c.tally-key.ensures)
    (field_counts _ _ _ _ _ _ c.tally-value.ensures)) (λ f. record {
      next = λ n. tallies_to (holds_both _ _ _ _ holds_itself holds_itself) as_itself (f.next n);
    })).told
