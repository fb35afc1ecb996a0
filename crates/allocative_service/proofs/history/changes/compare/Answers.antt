-- of compare: ordered and each
use Rattle.std.proofs.Common.{ℕ, ◌++◌, map, sym, subst, ◌∙◌}
use Rattle.std.proofs.lemmas.List.Folds.{flat_map-map}
use Rattle.allocative_graph.proofs.Common.{Path, entries, size_at, sum_of}
use Rattle.allocative_graph.proofs.Text.{texts}
use Rattle.allocative_service.specs.Changes.{change_data, HasEach, change_of}
use Rattle.allocative_service.specs.Walk.{changes_behind}
use Rattle.allocative_service.proofs.Compared.{has_each}
use Rattle.allocative_service.proofs.history.changes.compare.Goals as goal

-- The walk finds the changes of all paths.
pub returns-clause-ordered : goal.returns-clause-ordered
returns-clause-ordered c =
    let g = c.args.earlier.now in
    let h = c.args.later.now in
    c.in_ok-push_changes.ensures.changes
    ∙ (λ i. map change_data (c.new-changes.ensures.items i)
    ++ changes_behind (size_at g) (size_at h) (texts (c.new-path.ensures.items i)) (entries (sum_of g h)))
    ∙ sym (flat_map-map (change_of g h) (λ (e : Path × ℕ). e.0) _)

pub returns-clause-each : goal.returns-clause-each
returns-clause-each c =
    subst (HasEach _ _) (sym (returns-clause-ordered c)) (has_each c.args.earlier.now c.args.later.now)
