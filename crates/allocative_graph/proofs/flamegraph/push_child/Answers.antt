-- The child is put at the end of a list of children, all of which have smaller keys.
use Rattle.std.proofs.Common.{ap, ◌∙◌}
use Rattle.allocative_graph.proofs.{Common.node, Nodes.pushed, Nodes.node_grown, Nodes.sum_grown}
use Rattle.allocative_graph.proofs.flamegraph.push_child.Goals as goal

pub invariant_of-graph-2 : goal.invariant_of-graph-2
invariant_of-graph-2 c =
    let tree = c.total_size-added.ensures.tree in
    rw c.in_ok-push.ensures.items
    (node_grown c.graph.view_is c.graph.invariant tree
    (pushed c.graph.view_is c.graph.invariant tree c.requires.last) c.total_size-added.ensures.total
    c.requires.fits)

pub returns-clause-sum : goal.returns-clause-sum
returns-clause-sum c =
    let tree = c.total_size-added.ensures.tree in
    ap (node c.graph.inside.node_size) c.in_ok-push.ensures.items
    ∙ sum_grown c.graph.view_is c.graph.invariant tree
    (pushed c.graph.view_is c.graph.invariant tree c.requires.last)
