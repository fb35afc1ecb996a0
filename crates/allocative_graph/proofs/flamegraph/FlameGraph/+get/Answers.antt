-- of get: found and missing
use Rattle.allocative_graph.proofs.Nodes.{behind_root, missing_key, tree_of_node}
use Rattle.std.proofs.{Common.sym, Common.ap, Common.subst}
use Rattle.allocative_graph.proofs.{Common.IsBehind, Common.nil_from_length, Text.texts}
use Rattle.allocative_graph.proofs.flamegraph.FlameGraph.+get.Goals as goal

pub returns-in_default-clause-found : goal.returns-in_default-clause-found
returns-in_default-clause-found t c =
    subst (λ p. IsBehind c.args.self.now (texts p) c.args.self.now)
    (sym (nil_from_length c.args.path.now c.in_default.ensures.cases))
    (behind_root c.args.self.now (tree_of_node c.self.view_is c.self.invariant))

pub returns-in_default-place_by_halving-clause-missing : goal.returns-in_default-place_by_halving-clause-missing
returns-in_default-place_by_halving-clause-missing t c =
    missing_key c.self.view_is c.self.invariant c.as_slice-children.ensures.value (ap texts c.in-Some.ensures.cases.0)
    c.in_default-place_by_halving.ensures.missing
