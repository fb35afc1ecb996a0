-- of what enters counted pairs: the tally's shape merges the forests of the pairs
use Rattle.allocative_tally.proofs.{refl, rules, YieldsList-from_rest, starts_pairs, of_every, entered_all}
use Rattle.allocative_tally.proofs.{order_as, both_ok, told_by}
use Rattle.allocative_tally.proofs.map.CountedPairsRefHashMapPart.enter.Goals as goal

pub returns-in-Ok : goal.returns-in-Ok
returns-in-Ok g c =
    let fits = told_by c.product-fits.result (rw c.pair_size.ensures at c.product-fits.ensures.fits) in
    let run = of_every (YieldsList-from_rest _ c.iter.ensures.rest) c.count_run-run.ensures in
    let d = c.default-tally.ensures in
    let none = starts_pairs _ _ (g.met.K.Tallied.whole.none _ 0 d.0 refl) (g.met.V.Tallied.whole.none _ 0 d.1 refl) in
    let both = both_ok c.and.ensures c.in-Ok.is fits run in
    entered_all {b = c.enter.new.visitor} (order_as _ c.args.self.0.now.entries) none both.0
    (search rules) both.1 c.enter.ensures.entered
