-- No part is no entry.
use Rattle.allocative_tally.proofs.{enters_nothing}
use Rattle.allocative_tally.proofs.tally.UnitEntries.enter.Goals as goal

pub returns : goal.returns
returns c = enters_nothing c.enter.ensures
