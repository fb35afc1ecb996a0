-- The entry is there or not.
use Rattle.allocative_tally.proofs.{arith, Unique, enters_entry, enters_none}
use Rattle.allocative_tally.proofs.tally.UniqueSumEntries.enter.Goals as goal

pub returns-then-self-eq0 : goal.returns-then-self-eq0
returns-then-self-eq0 g c = enters_none Unique {sum = c.args.self.1} c.args.visitor.now c.if-self-eq0.true

pub returns : goal.returns
returns g c = enters_entry Unique {sum = c.args.self.1} {b = c.enter.new.visitor} (omega arith) c.enter.ensures
