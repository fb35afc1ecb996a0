-- The parts of both shapes are the parts of the two, one after another.
use Rattle.allocative_tally.proofs.{enters_both}
use Rattle.allocative_tally.proofs.tally.Tuple2Entries.enter.Goals as goal

pub returns : goal.returns
returns g c = enters_both {b = c.enter.new.visitor} c.enter.ensures
