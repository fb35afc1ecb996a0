-- of what enters texts: the entries of the sums
use Rattle.allocative_tally.proofs.sequence.StringTallied.show.Goals as goal

pub returns : goal.returns
returns c =
    rw (c.of.ensures, c.of-2.ensures, c.of-3.ensures, c.times.ensures, c.size.ensures) at c.enter.ensures
