-- of what enters heaps: the entries of the sums
use Rattle.allocative_tally.proofs.sequence.BinaryHeapTallied.show.Goals as goal

pub returns : goal.returns
returns g c = rw c.size.ensures at c.enter.ensures
