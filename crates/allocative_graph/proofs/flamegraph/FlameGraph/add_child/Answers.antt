-- of add_child: part
use Rattle.allocative_graph.proofs.{Common.Child, Nodes.added_under}
use Rattle.allocative_graph.proofs.flamegraph.FlameGraph.add_child.Goals as goal

pub returns-in_err-put_child-clause-part : goal.returns-in_err-put_child-clause-part
returns-in_err-put_child-clause-part c e =
    let child : Child = record { key = c.args.key; graph = c.args.child } in
    λ p. ((added_under child c.self.view_is c.self.invariant c.total_size.ensures.tree
    c.put_child.ensures.merged).adds p).0
