-- of what enters counted items: the tally's shape merges the forests of the items
use Rattle.allocative_tally.proofs.{refl, rules, YieldsList-from_slice, as_itself, of_every, entered_all, both_ok}
use Rattle.allocative_tally.proofs.{told_by}
use Rattle.allocative_tally.proofs.counted.CountedEachRefSlicePart.enter.Goals as goal

pub returns-in-Ok : goal.returns-in-Ok
returns-in-Ok g c =
    let fits = told_by c.product-fits.result (rw c.size.ensures at c.product-fits.ensures.fits) in
    let run = of_every (YieldsList-from_slice _ c.iter.ensures.rest) c.count_run-run.ensures in
    let both = both_ok c.and.ensures c.in-Ok.is fits run in
    let none = g.met.T.Tallied.whole.none _ 0 c.default-tally.ensures refl in
    entered_all {b = c.show.new.visitor} as_itself none both.0 (search rules) both.1 c.show.ensures.entered
