-- of count_run: one more item is counted, and the run ends
use Rattle.std.proofs.{lemmas.List.map-append, Common.map}
use Rattle.allocative_tally.proofs.{◌≡◌, arith, refl, tallies_none, many_more, run_ends}
use Rattle.allocative_tally.proofs.counted.count_run.Goals as goal

pub loop-item-init : goal.loop-item-init
loop-item-init g c = record { next = λ n m e. let same : m ≡ n = omega (arith, e) in rw same (tallies_none refl) }

pub loop-item-preserved : goal.loop-item-preserved
loop-item-preserved g c =
    let seen = g.C.CountItem.seen in
    rw map-append (many_more _ (map seen c.loop-item.yielded) (seen c.in-Some.item) c.loop-item.invariant
    c.in_ok-count_item.ensures)

pub returns : goal.returns
returns g c =
    let l = c.loop-item in
    rw (← c.into_iter-item-iterator.ensures.into_iter_gives) (run_ends l.item-iterator c.next.new.self l.yielded
    l.yielded_by c.in-None.ensures.steps (record { told = l.invariant }))
