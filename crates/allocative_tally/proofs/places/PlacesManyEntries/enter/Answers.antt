-- of what enters buffers: the entries of the sums
use Rattle.allocative_tally.proofs.places.PlacesManyEntries.enter.Goals as goal

pub returns : goal.returns
returns g c = rw (c.of.ensures, c.times.ensures) at c.enter.ensures
