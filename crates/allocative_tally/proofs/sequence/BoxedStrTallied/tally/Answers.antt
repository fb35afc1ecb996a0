-- of the tally of a text in a box: its pointer, and inside it the text
use Rattle.allocative_tally.proofs.{refl, arith, rules, holds_itself, whole_counts, bytes_counts}
use Rattle.allocative_tally.proofs.sequence.BoxedStrTallied.tally.Goals as goal

pub returns : goal.returns
returns c = whole_counts _ (record { bytes = 16; sized = refl; fits = omega arith }) holds_itself
    (bytes_counts (search rules) c.count_bytes.ensures)
