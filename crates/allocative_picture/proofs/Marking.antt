-- The bytes of paths in another graph, and the graph of the paths that have a warning.
use Rattle.std.proofs.Common.{◌≡◌, ℕ, ◌≤◌, Bor, IfSome, IfNone, option_copied, cond, [], ◌∷◌, Option, Some, None}
use Rattle.std.proofs.Common.{refl, sym, unwrap_or, arith, ◌==◌, not, List, map, sum_by}
use Rattle.allocative_picture.proofs.Common.{entries, Path, Graph, total_at, is_same_path, sum_by-le-sum_by}
use Rattle.allocative_picture.proofs.Common.{sum_by-cons, Key, size_at, begins, IsBehind, HasNothing, default}
use Rattle.allocative_picture.proofs.Common.{mark_by, size_in, total_in, warned_mark, warning_of, list_any}
use Rattle.allocative_picture.proofs.Common.{graph_of_path, path_total, size_at-path, eq_by_cmp_equiv}
use Rattle.allocative_collectors.specs.declared.output.WarnedPath.{WarnedPath}
use Rattle.allocative_picture.specs.declared.frames.Marks.TheVariants as marks
use Rattle.allocative_picture.specs.Frames.{is_warned}
use Rattle.allocative_graph.proofs.Graphs.{added_up, size_at-added_up, size_at-default}

-- An entry that counts below a path also counts below the first key of the path.
fewer : (p q : Path) (k : Key) (n : ℕ) → cond (begins (k ∷ p) q) n 0 ≤ cond (begins (k ∷ []) q) n 0
fewer p [] k n = omega arith
fewer p (l ∷ q) k n = grind arith

-- What is found below a key of the graph has each path below the key with its own bytes. If nothing is found, there are
-- none.
pub sizes_found : (g : Graph) (k : Key) (o : Option (Bor Graph)) → IfSome o (λ h. IsBehind g (k ∷ []) h.now) →
    IfNone o (HasNothing g (k ∷ [])) → (p : Path) → size_at g (k ∷ p) ≡ size_in (option_copied o) p
sizes_found g k None some h p = grind (arith, h.below p)
sizes_found g k (Some b) h none p = λ i. unwrap_or (sym (h.sizes p) i) 0

-- So it is with the bytes of a path and of all paths below it.
pub totals_found : (g : Graph) (k : Key) (o : Option (Bor Graph)) → IfSome o (λ h. IsBehind g (k ∷ []) h.now) →
    IfNone o (HasNothing g (k ∷ [])) → (p : Path) → total_at g (k ∷ p) ≡ total_in (option_copied o) p
totals_found g k None some h p =
    let le : total_at g (k ∷ p) ≤ total_at g (k ∷ []) =
    sum_by-le-sum_by (λ e. cond (begins (k ∷ p) e.0) e.1 0) (λ e. cond (begins (k ∷ []) e.0) e.1 0) (entries g)
    (λ e. fewer p e.0 k e.1) in
    omega (arith, le, h.nothing)
totals_found g k (Some b) h none p = sym (h.totals p)

-- The graph with a byte at the path of a warning.
abbrev byte_at : WarnedPath → Graph
byte_at w = graph_of_path (warning_of w).path 1

-- The graph with a byte at the path of each warning.
abbrev pub bytes_at : List WarnedPath → Graph
bytes_at ws = added_up byte_at default ws

-- A warning counts at its path, and at no other.
abbrev count_at : Path → WarnedPath → ℕ
count_at p w = cond (is_same_path p (warning_of w).path) 1 0

-- The count of warnings at a path is 0 exactly if no warning has this path.
none_counted : (ws : List WarnedPath) (p : Path) →
    (sum_by (count_at p) ws == 0) ≡ not (list_any (λ w. is_same_path w.path p) (map warning_of ws))
none_counted [] p = refl
none_counted (w ∷ ws) p = rw (sum_by-cons (count_at p) w ws, (eq_by_cmp_equiv path_total).symm (warning_of w).path p)
    (grind (arith, none_counted ws p))

-- The graph of some warnings marks a path that has one of them, and no other.
pub mark_warned : (ws : List WarnedPath) (p : Path) →
    mark_by marks.Warned (bytes_at ws) p ≡ warned_mark (map warning_of ws) p
unfolding is_warned
mark_warned ws p =
    let each : sum_by (λ w. size_at (byte_at w) p) ws ≡ sum_by (count_at p) ws =
    λ i. sum_by (λ w. size_at-path (warning_of w).path 1 p i) ws in
    let bytes : size_at (bytes_at ws) p ≡ sum_by (count_at p) ws =
    omega (arith, size_at-added_up byte_at default ws p, size_at-default p, each) in
    grind (arith, none_counted ws p)
