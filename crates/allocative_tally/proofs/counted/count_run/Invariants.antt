-- of count_run: the invariant of its loop
use Rattle.std.proofs.Common.{map}
use Rattle.allocative_graph.specs.Shows.{each_shows}
use Rattle.allocative_tally.{proofs.length, specs.TalliesMany}
use Rattle.allocative_tally.proofs.counted.count_run.Given as goal

-- The items so far are counted.
abbrev pub invariant-loop-item : goal.invariant-loop-item
invariant-loop-item g l = let xs = map g.C.CountItem.seen l.yielded in
    TalliesMany g.C.CountItem.size (length xs) (each_shows (g.C.CountItem.may_show l.how) xs)
    (g.C.CountItem.shape l.how l.initial.tally) (g.C.CountItem.shape l.how l.tally)
