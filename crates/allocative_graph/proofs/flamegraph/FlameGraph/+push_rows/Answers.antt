-- of push_rows: rows
use Rattle.std.proofs.Common.{◌≡◌, ◌++◌, [], ◌∷◌, List, map, take, arith, ap, sym, append_assoc, ◌∙◌, take_all}
use Rattle.allocative_graph.proofs.Common.{Figures, map_push, row_figures}
use Rattle.std.proofs.lemmas.List.Elements.{same_from_all_zip}
use Rattle.allocative_graph.specs.declared.flamegraph.Row.{Row}
use Rattle.allocative_graph.proofs.Text.{texts}
use Rattle.allocative_graph.proofs.Nodes.{figures_of_node}
use Rattle.allocative_graph.proofs.flamegraph.FlameGraph.+push_rows.Goals as goal

pub returns-clause-rows : goal.returns-clause-rows
returns-clause-rows t c =
    let ks = texts c.args.path.now.items in
    let row : Row = record {
      path = c.in_ok-clone.field-0;
      self_size = c.self.inside.node_size;
      total_size = c.total_size.result;
    } in
    let all : take c.loop-child.child-index c.deref-child-items.result.now ≡ c.self.inside.children.items =
    take_all _ _ (omega arith) ∙ c.deref-child-items.ensures.value in
    let copied : c.in_ok-clone.field-0.items ≡ c.args.path.now.items =
    same_from_all_zip _ _ _ c.in_ok-clone.ensures.cases.0 (λ x y e. e) in
    rw (c.in_ok-push.ensures.items, map_push, all, copied, c.total_size.ensures.total) at c.loop-child.invariant.1
    ∙ append_assoc (map row_figures c.args.rows.now.items) (_ ∷ []) _
    ∙ ap (λ (fs : List Figures). map row_figures c.args.rows.now.items ++ fs)
    (sym (figures_of_node c.self.view_is c.self.invariant ks))
