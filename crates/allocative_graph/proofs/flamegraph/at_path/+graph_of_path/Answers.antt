-- of graph_of_path: the node whose only child has the rest of the path
use Rattle.std.proofs.Common.{◌≡◌, ℕ, ◌∷◌, [], List, sym, ap, subst, ◌∙◌}
use Rattle.allocative_graph.proofs.Common.{Child, IsNode, Path, node, graph_of_path, child_of_path}
use Rattle.allocative_graph.proofs.{Children.node_of_one, Text.texts, Nodes.node_of_path}
use Rattle.allocative_graph.proofs.flamegraph.at_path.+graph_of_path.Goals as goal

only_child : (t : ℕ) (c : goal.In_ok-vec t) →
    c.in_ok-vec.field-0.items ≡ child_of_path c.in-Some.key.now.now (texts c.in-Some.rest.now) c.args.size ∷ []
only_child t c = c.in_ok-vec.ensures.items
    ∙ (λ i. record { key = c.new-key.ensures i; graph = c.in_ok-graph.ensures i } ∷ [])

pub invariant_of-result-2 : goal.invariant_of-result-2
invariant_of-result-2 t c = subst (λ (cs : List Child). IsNode cs c.args.size 0) (sym (only_child t c))
    (node_of_path c.in-Some.key.now.now (texts c.in-Some.rest.now) c.args.size c.ranges.size.fits)

pub returns : goal.returns
returns t c =
    ap (node 0) (only_child t c)
    ∙ node_of_one (child_of_path c.in-Some.key.now.now (texts c.in-Some.rest.now) c.args.size)
    ∙ ap (λ (p : Path). graph_of_path p c.args.size) (sym (ap texts c.in-Some.ensures.cases.0))
