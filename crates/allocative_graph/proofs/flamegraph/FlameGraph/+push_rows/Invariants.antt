-- of push_rows: what its loop keeps
use Rattle.std.proofs.Common.{◌≡◌, ◌++◌, map, flat_map, take}
use Rattle.allocative_graph.proofs.{Common.row_figures, Nodes.child_figures, Text.texts}
use Rattle.allocative_graph.proofs.flamegraph.FlameGraph.+push_rows.Given as goal

abbrev pub invariant-loop-child : goal.invariant-loop-child
invariant-loop-child l =
    (l.path.items ≡ l.initial.path.items) ×
    (map row_figures l.rows.items ≡ map row_figures l.initial.rows.items
    ++ flat_map (child_figures (texts l.initial.path.items)) (take l.child-index l.child-items))
