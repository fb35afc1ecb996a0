-- of what enters a counted value: the tally's shape merges the forest of the value
use Rattle.allocative_tally.proofs.{refl, entered_counted, counts}
use Rattle.allocative_tally.proofs.counted.CountedPart.enter.Goals as goal

pub returns-in-Ok : goal.returns-in-Ok
returns-in-Ok g c =
    let t = c.in-Ok.ensures in
    let none = g.met.T.Tallied.whole.none _ 0 c.default-tally.ensures refl in
    entered_counted {b = c.show.new.visitor} (counts none (t.next 0) t.declared.sized t.declared.fits)
    c.show.ensures.entered
