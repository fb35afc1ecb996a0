-- Graphs with other keys: that a node is folded by its children, and that the total is kept.
use Rattle.std.proofs.Common.{◌≡◌, ℕ, true, List, [], ◌∷◌, map, refl, sym, ap, ◌∙◌, arith, is_some}
use Rattle.allocative_picture.proofs.Common.{Path, Sizes, Key, Graph, Child, default, total, sum_of, under, entries, node, AreChildren}
use Rattle.allocative_picture.proofs.Common.{AllByRecursion, graph_of_path, sum_of_all, fold-append, fold-map, get-entries, find, path_cmp}
use Rattle.allocative_picture.proofs.Common.{path_total}
use Rattle.allocative_graph.proofs.Basics.{path_antisymmetric}
use Rattle.allocative_graph.proofs.Common.{same_map}
use Rattle.allocative_graph.proofs.Showings.{get-sum_of}
use Rattle.allocative_graph.proofs.Graphs.{added_up, added_up-onto, get-under, get-under-root, sum_of-associates}
use Rattle.allocative_graph.proofs.Nodes.{tree-path}
use Rattle.allocative_graph.specs.Graph.{IsTree}
use Rattle.allocative_graph.specs.Rows.{rows_of, rows_of_child}
use Rattle.allocative_graph.specs.Representation.NodeRows.{entries-node}
use Rattle.std.specs.FinMap.{get}
use Rattle.allocative_picture.specs.Views.{bytes_alone, folded, folded_child}
use Rattle.allocative_picture.proofs.Viewing.{onto_default, total-view}

-- A sum under a key is the sum of both graphs under the key.
under-sum : (k : Key) (g h : Graph) → under k (sum_of g h) ≡ sum_of (under k g) (under k h)
under-sum k g h = same_map path_total path_antisymmetric _ _ each
  where
    each : (p : Path) → get (under k (sum_of g h)) p ≡ get (sum_of (under k g) (under k h)) p
    each [] = grind (
      arith,
      get-sum_of (under k g) (under k h) [],
      get-under-root k (sum_of g h),
      get-under-root k g,
      get-under-root k h,
    )
    each (l ∷ p) = grind (
      arith,
      get-sum_of (under k g) (under k h) (l ∷ p),
      get-sum_of g h p,
      get-under k (sum_of g h) l p,
      get-under k g l p,
      get-under k h l p,
    )

module _ (f : Key → Key) where
  -- The bytes of an entry at the path whose keys f gives.
  abbrev made : Path × ℕ → Graph
  made e = graph_of_path (map f e.0) e.1

  -- The total stays.
  pub total_folded : (g : Graph) → total (folded f g) ≡ total g
  total_folded g = total-view (λ e. true) (map f) g

  -- What is added up under a key is the sum under the key.
  under-added : (k : Key) (h : Graph) (es : Sizes) →
      added_up (λ e. under k (made e)) (under k h) es ≡ under k (added_up made h es)
  under-added k h [] = refl
  under-added k h (e ∷ es) = ap (λ (x : Graph). added_up (λ e. under k (made e)) x es) (sym (under-sum k h (made e)))
      ∙ under-added k (sum_of h (made e)) es

  -- Adding each entry of a tree under a key is adding their sum under the key.
  added-under : (k : Key) (h : Graph) (es : Sizes) → is_some (find path_cmp [] es) ≡ true →
      added_up (λ e. under k (made e)) h es ≡ sum_of h (under k (added_up made default es))
  added-under k h [] t = absurd (cc)
  added-under k h (e ∷ es) t =
      let below : Path × ℕ → Graph = λ e. under k (made e) in
      let none : sum_of (under k default) (below e) ≡ below e =
      sym (under-sum k default (made e)) ∙ ap (under k) (onto_default (made e) (tree-path (map f e.0) e.1)) in
      ap (λ (x : Graph). added_up below (sum_of h x) es) (sym none)
      ∙ sym (added_up-onto below h (under k default) (e ∷ es) ∙ ap (λ (x : Graph). added_up below x es)
      (sum_of-associates h (under k default) (below e)))
      ∙ ap (sum_of h) (under-added k default (e ∷ es))

  rows-folded : (h : Graph) (cs : List Child) → AllByRecursion (λ c. IsTree c.graph) cs →
      added_up made h (rows_of cs) ≡ sum_of_all h (map (folded_child f) cs)
  rows-folded h [] trees = refl
  rows-folded h (c ∷ cs) trees =
      fold-append (λ (x : Graph) (e : Path × ℕ). sum_of x (made e)) h (rows_of_child c) (rows_of cs)
      ∙ ap (λ (x : Graph). added_up made x (rows_of cs))
      (fold-map (λ (x : Graph) (e : Path × ℕ). sum_of x (made e)) (λ (e : Path × ℕ). (c.key ∷ e.0, e.1)) h
      (entries c.graph)
      ∙ added-under (f c.key) h (entries c.graph) (ap is_some (sym (get-entries c.graph [])) ∙ trees.0.root))
      ∙ rows-folded (sum_of h (under (f c.key) (folded f c.graph))) cs trees.1

  -- A node is folded by its root and its children.
  pub folded_node : (g : Graph) (n : ℕ) (cs : List Child) → g ≡ node n cs → AreChildren cs →
      sum_of_all (bytes_alone n) (map (folded_child f) cs) ≡ folded f g
  folded_node g n cs whole h = sym (ap (folded f) whole ∙ ap (added_up made default) (entries-node n cs h.sorted)
      ∙ ap (λ (x : Graph). added_up made x (rows_of cs)) (onto_default (bytes_alone n) (tree-path [] n))
      ∙ rows-folded (bytes_alone n) cs h.trees)
