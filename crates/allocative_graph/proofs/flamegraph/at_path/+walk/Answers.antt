-- At the end of the path the bytes are added to the node; before it, to the child with the next key.
use Rattle.allocative_graph.proofs.Common.{Child, Key, Path, sum_of, under, graph_of_path}
use Rattle.allocative_graph.proofs.Nodes.{node_grown, sum_grown, tree-path, total-path, path_merged}
use Rattle.allocative_graph.proofs.Text.{texts}
use Rattle.std.proofs.{Common.sym, Common.ap, Common.◌∙◌, Common.arith, lemmas.Result.on_ok_weaker}
use Rattle.allocative_graph.proofs.flamegraph.at_path.+walk.Goals as goal

pub add_at-invariant_of-graph-2 : goal.add_at-invariant_of-graph-2
add_at-invariant_of-graph-2 t c =
    let rest = texts c.in-Some.rest.now in
    let bytes = total-path rest c.args.size in
    node_grown c.graph.view_is c.graph.invariant (tree-path rest c.args.size) c.in_ok-add_below.ensures.merged
    (sym bytes) (omega (arith, bytes, c.requires.fits))

pub add_at-returns-clause-sum : goal.add_at-returns-clause-sum
add_at-returns-clause-sum t c =
    let rest = texts c.in-Some.rest.now in
    sum_grown c.graph.view_is c.graph.invariant (tree-path rest c.args.size) c.in_ok-add_below.ensures.merged
    ∙ ap (λ (k : Key). sum_of c.args.graph.now (under k (graph_of_path rest c.args.size))) c.new.ensures
    ∙ ap (λ (p : Path). sum_of c.args.graph.now (graph_of_path p c.args.size))
    (sym (ap texts c.in-Some.ensures.cases.0))

pub add_below-returns-in-Ok-clause-merged : goal.add_below-returns-in-Ok-clause-merged
add_below-returns-in-Ok-clause-merged t c =
    let x : Child = c.index_mut-here.result.now in
    on_ok_weaker c.add_at.result
    (path_merged c.args.key (texts c.args.rest.now) c.args.size x c.deref.ensures.value c.in-Ok.ensures.found
    c.index_mut-here.ensures.value c.requires.children)
    c.add_at.ensures.sum
