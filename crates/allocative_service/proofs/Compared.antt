-- The changes between two profiles: each path has its own, and those that grew most come first.
use Rattle.std.proofs.Common.{◌≡◌, ℕ, cond, List, [], ◌∷◌, map, refl, sym, ◌∙◌, T, filter, flat_map, arith, ◌+◌, ◌<◌}
use Rattle.std.proofs.Common.{◌++◌, take, drop, length, min, ap, All, AllPairs, take-append-drop, length-take}
use Rattle.std.proofs.Common.{get_or-append-add, length-append}
use Rattle.std.proofs.lemmas.List.Elements.{filter-append}
use Rattle.allocative_graph.proofs.Common.{below_all, entries, entries_sorted, find, first, get-entries, is_some}
use Rattle.allocative_graph.proofs.Common.{is_same_path, is_sorted, path_cmp, second, sum_of, Graph, Path}
use Rattle.allocative_graph.proofs.Basics.{same_path}
use Rattle.allocative_graph.proofs.Showings.{get-sum_of}
use Rattle.allocative_graph.proofs.Sums.{find-below_all}
use Rattle.allocative_service.specs.Changes.{HasEach, change_of, changes_of, Changed, change_data, is_grown, GrewAsMuch}
use Rattle.allocative_service.specs.Changes.{GrewMost, IsByGrowth, IsWord, rank}
use Rattle.std.specs.List.Sorted.{IsNonDecreasingBy}
use Rattle.std.proofs.lemmas.List.{map-append, length-map, get_or-map, get_or_append_left, get_or_default}
use Rattle.std.proofs.lemmas.List.Sorted.{length_permutation}
use Rattle.allocative_service.specs.declared.history.changes.Change.{Change}

-- A path has its change exactly if it is found among the sorted entries.
found : (g h : Graph) (p : Path) (es : List (Path × ℕ)) → T (is_sorted path_cmp es) →
    filter (λ c. is_same_path p c.path) (flat_map (change_of g h) (map (λ e. e.0) es))
    ≡ cond (is_some (find path_cmp p es)) (change_of g h p) []
found g h p [] t = refl
found g h p (e ∷ es) t =
    let rest = found g h p es (second (below_all path_cmp e.0 es) (is_sorted path_cmp es) t) in
    let none = find-below_all path_cmp e.0 es (first (below_all path_cmp e.0 es) (is_sorted path_cmp es) t) in
    filter-append (λ c. is_same_path p c.path) (change_of g h e.0) (flat_map (change_of g h) (map (λ f. f.0) es))
    ∙ grind (arith, rest, none, same_path p e.0)

-- The changes of two graphs have for each path its change and no other. A path that neither has is no change.
pub has_each : (g h : Graph) → HasEach g h (changes_of g h)
has_each g h p = found g h p (entries (sum_of g h)) (entries_sorted (sum_of g h))
    ∙ rw (sym (get-entries (sum_of g h) p) ∙ get-sum_of g h p) (grind arith)

-- What is sorted by rank is sorted by growth.
pub falls : (xs : List Change) → All IsWord xs → IsNonDecreasingBy (λ d. rank (change_data d)) xs →
    AllPairs GrewAsMuch (map change_data xs)
falls [] w h i j d before lt = absurd (omega arith)
falls (x ∷ xs) w h i j d before lt =
    let short : j < length (x ∷ xs) = omega (arith, lt, length-map (x ∷ xs) change_data) in
    let low : i < length (x ∷ xs) = omega (arith, before, short) in
    rw (get_or-map change_data (x ∷ xs) i x d low, get_or-map change_data (x ∷ xs) j x d short)
    (omega (arith, h i j x (omega arith) short, w i x low, w j x short))

-- The first n changes of those that grew, sorted by growth, are those that grew most.
pub grew_first : (n : ℕ) (cs : List Changed) (qs : List Change) → IsByGrowth (filter is_grown cs) (map change_data qs) →
    GrewMost n cs (map change_data (take n qs))
grew_first n cs qs h =
    let top = map change_data (take n qs) in
    let left = map change_data (drop n qs) in
    let parts : map change_data qs ≡ top ++ left =
    ap (map change_data) (sym (take-append-drop n qs)) ∙ map-append change_data (take n qs) (drop n qs) in
    let fall : AllPairs GrewAsMuch (top ++ left) = rw (← parts) h.falling in
    record {
      rest = left;
      chosen = rw (← parts) h.same;
      enough = length-map (take n qs) change_data ∙ length-take n qs
          ∙ ap (min n) (sym (length-map qs change_data)
          ∙ length_permutation (filter is_grown cs) (map change_data qs) h.same);
      falling = λ i j d before short.
          let h = rw (get_or_append_left top left d i (omega arith), get_or_append_left top left d j short)
          at (fall i j d before (omega (arith, short, length-append top left))) in
          omega (arith, h);
      most = λ i d in_top j e in_rest.
          let far : length top + j < length (top ++ left) = omega (arith, in_rest, length-append top left) in
          let there = get_or_default left j d e in_rest in
          let h = rw (get_or_append_left top left d i in_top, get_or-append-add top left j d, there)
          at (fall i (length top + j) d (omega arith) far) in
          omega (arith, h);
    }
