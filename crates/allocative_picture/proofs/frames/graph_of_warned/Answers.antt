-- of graph_of_warned: the loop adds a byte for each warning, and the result
use Rattle.std.proofs.Common.{arith, rules, take_all}
use Rattle.std.proofs.lemmas.List.Sums.{fold_more}
use Rattle.allocative_graph.proofs.Graphs.{total-sum_of, total-default}
use Rattle.allocative_picture.proofs.Common.{total-path}
use Rattle.allocative_picture.proofs.Marking.{mark_warned}
use Rattle.allocative_picture.proofs.frames.graph_of_warned.Goals as goal

pub loop-one-init : goal.loop-one-init
loop-one-init c = search (rules, total-default)

pub loop-one-preserved : goal.loop-one-preserved
loop-one-preserved c = record {
  graph = search (rules, fold_more);
  bytes = search (rules, total-sum_of, total-path);
}

pub returns : goal.returns
returns c = λ p.
    rw (c.loop-one.invariant.graph, take_all c.loop-one.one-index c.args.warned.now (omega arith))
    (mark_warned c.args.warned.now p)
