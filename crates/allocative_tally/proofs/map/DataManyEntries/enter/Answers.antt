-- of what enters entries `data`: both are inline
use Rattle.allocative_tally.proofs.{refl, enters_same}
use Rattle.allocative_tally.proofs.map.DataManyEntries.enter.Goals as goal

pub returns : goal.returns
returns g c = enters_same refl (rw (c.times-sum.ensures, c.times-sum-2.ensures) at c.enter.ensures)
