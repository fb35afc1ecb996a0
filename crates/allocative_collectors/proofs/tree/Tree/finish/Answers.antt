-- The walk from the root has all paths.
use Rattle.std.proofs.Common.{arith, ◌≡◌, true, List, ◌++◌, map, ap, ◌∙◌, flat_map, [], ◌∷◌, refl, append-nil}
use Rattle.allocative_collectors.proofs.Common.{get, Path, graph, map_of, warning_of, warning_lines, entries, newline}
use Rattle.allocative_collectors.proofs.Common.{Sums, below, warning_text, flat_map-append, filter}
use Rattle.std.specs.FinMap.{same_map}
use Rattle.allocative_graph.specs.Graph.{warned, warning, warning_line, warned_paths}
use Rattle.allocative_graph.proofs.Basics.{path_total, path_antisymmetric}
use Rattle.allocative_collectors.proofs.NodeReads.{part_fits, listing_of}
use Rattle.allocative_graph.specs.Sums.{Node}
use Rattle.allocative_collectors.proofs.tree.Tree.finish.Goals as goal

-- A filter whose test is always true keeps the whole list.
all_kept : {X : Type 0} (xs : List X) → filter (λ x. true) xs ≡ xs
all_kept [] = refl
all_kept (x ∷ xs) = ap (λ (ys : List _). x ∷ ys) (all_kept xs)

-- ---- the text of the warnings
-- The line of an entry's warned path is the text of its warning, and empty if it has none.
line_of : (s : Sums) (e : Path × Node) → warning_lines (warned s e) ≡ warning s e
line_of s e = grind (arith, append-nil (warning_line e.0 e.1.bytes (below s e.0)))

-- The lines of the warned paths of some entries are the texts of their warnings.
lines_of : (s : Sums) (es : List (Path × Node)) → warning_lines (flat_map (warned s) es) ≡ flat_map (warning s) es
lines_of s [] = refl
lines_of s (e ∷ es) =
    flat_map-append (λ w. warning_text w ++ newline ∷ []) (warned s e) (flat_map (warned s) es)
    ∙ (λ i. line_of s e i ++ lines_of s es i)

pub returns-clause-made : goal.returns-clause-made
returns-clause-made c =
    let v = c.args.self.now in
    let root = (listing_of c.self.invariant c.self.view_is).root_path in
    let made = c.in_ok-build_graph.ensures.made in
    let found : map warning_of c.build_graph.new.warned.items ≡ warned_paths (map_of v) =
    made.warned_are ∙ rw (c.new-warned.ensures.items, root, all_kept (entries (map_of v))) refl in (
      c.in_ok-new.ensures.graph ∙ same_map path_total path_antisymmetric c.build_graph.new.graph (graph (map_of v))
          (λ q. made.graph_is q ∙ ap (λ (p : Path). get (graph (map_of v)) (p ++ q)) root),
      c.in_ok-new.ensures.warnings ∙ (ap warning_lines found ∙ lines_of (map_of v) (entries (map_of v))),
      c.in_ok-new.ensures.warned ∙ found,
    )

pub returns-clause-total : goal.returns-clause-total
returns-clause-total c =
    rw c.in_ok-new.ensures.graph (omega (arith, part_fits c.in_ok-build_graph.ensures.made, c.requires))
