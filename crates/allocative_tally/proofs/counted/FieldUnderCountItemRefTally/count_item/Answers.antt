-- of what counts an item: a field
use Rattle.allocative_tally.proofs.{field_counts}
use Rattle.allocative_tally.proofs.counted.FieldUnderCountItemRefTally.count_item.Goals as goal

pub returns : goal.returns
returns g c = (field_counts _ _ _ _ _ _ c.tally.ensures).told
