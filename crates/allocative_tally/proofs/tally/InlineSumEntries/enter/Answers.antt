-- The entry is there or not.
use Rattle.allocative_tally.proofs.{arith, Wide, enters_entry, enters_none}
use Rattle.allocative_tally.proofs.tally.InlineSumEntries.enter.Goals as goal

pub returns-then-self-eq0 : goal.returns-then-self-eq0
returns-then-self-eq0 g c = enters_none Wide {sum = c.args.self.1} c.args.visitor.now c.if-self-eq0.true

pub returns : goal.returns
returns g c = enters_entry Wide {sum = c.args.self.1} {b = c.enter.new.visitor} (omega arith) c.enter.ensures
