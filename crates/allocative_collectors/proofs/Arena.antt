-- Keys and paths, the sums that an arena stands for, and an arena with one more node or with a node that is written.
-- One more entry in the listed sums, and what the map has at each place and after it.
use Rattle.std.proofs.Common.{◌≡◌, true, false, refl, sym, ℕ, suc, set, ◌-◌, ◌<◌, ◌≤◌, List, [], ◌∷◌, ◌++◌, length, map}
use Rattle.std.proofs.Common.{get_or, drop, take, ◌∙◌, arith, zero, ◌+◌, Bool, append_assoc, append-nil, ap, ◌≢◌, rules}
use Rattle.std.proofs.Common.{subst, inl, inr, length-set, add-zero, zero-add, cond, Some, None, sum_by}
use Rattle.allocative_collectors.proofs.Common.{Path, is_same_path, Node, at, children_at, key_at, keys_of}
use Rattle.allocative_collectors.proofs.Common.{false_from_ne_true, map-append, no_node, get_or_append_left}
use Rattle.allocative_collectors.proofs.Common.{get_or_push, length_push, insert, take-map, drop-map, set_past}
use Rattle.allocative_collectors.proofs.Common.{get_or_past, get_or-set_same, get_or-set_other, get_or-map, length-map}
use Rattle.allocative_collectors.proofs.Common.{nat_tests, Key, Sum, Listed, root_sum, put, path_at, sums, key_in}
use Rattle.allocative_collectors.proofs.Common.{keys_at, parent_at, IsArena, IsChild, tied_itself, get_or_default}
use Rattle.allocative_collectors.proofs.Common.{same_from_push, raise, grow, path_from, sum_from, Less}
use Rattle.allocative_collectors.proofs.Common.{ordering_reverse, key_cmp, leaf, KeysRise, IsKeyGap, bytes_at, cases_eq}
use Rattle.allocative_collectors.proofs.Common.{All, Contains, IsEntered, Sums, get, path_cmp, is_one_below, graph}
use Rattle.allocative_collectors.proofs.Common.{sum_at, row, map_of, size_at_place, sum_by-cons, cond-true}
use Rattle.allocative_collectors.proofs.Common.{bytes_entered, rows}
pub use Rattle.std.specs.Cmp.Lexicographic.{nat_list_cmp_total as key_total}
pub use Rattle.std.proofs.lemmas.Map.Lookups.{exact_bytes as key_same}
use Rattle.allocative_graph.proofs.Basics.{same_path, same_path_itself, path_total}
use Rattle.std.proofs.lemmas.List.Edits.{get_or-insert_above, length-insert, get_or-insert_below, get_or-insert_at}
use Rattle.std.proofs.lemmas.List.Elements.{All-cons, All-weaker, Contains-append_right}
use Rattle.std.proofs.lemmas.List.Sorted.{All-permutation, Contains-permutation, IsPermutation-insert}
use Rattle.std.proofs.Math.Bool.{or-false}
use Rattle.std.specs.FinMap.{from_entries, get-from_entries, find}
use Rattle.std.specs.Option.{option_map}
use Rattle.allocative_graph.specs.Forest.{Mark, Entry, AsInline, AsUnique}
use Rattle.allocative_graph.specs.Sums.{Node as Entered, together, is_unique_mark}
use Rattle.allocative_graph.specs.Sums as bag
use Rattle.allocative_graph.specs.Graph.{remaining}
use Rattle.allocative_graph.proofs.Sums.{get-add, same_sums, below-add, bytes_entered-add, entries-empty}
use Rattle.allocative_graph.proofs.Showings.{get-graph, get-graph-root}

-- If two paths are equal, the test for the same path holds.
pub same_path-same : (p q : Path) → p ≡ q → is_same_path p q ≡ true
same_path-same p q e = rw (← e) (same_path_itself p)

-- If two paths differ, the test for the same path fails.
pub same_path-apart : (p q : Path) → (p ≡ q → ⊥) → is_same_path p q ≡ false
same_path-apart p q ne = false_from_ne_true _ (λ e. ne (same_path p q e))

-- two functions that agree at the numbers of a list
pub map_same : {X : Type 0} (f g : ℕ → X) (xs : List ℕ) →
    ((j : ℕ) → j < length xs → f (get_or xs j 0) ≡ g (get_or xs j 0)) → map f xs ≡ map g xs
map_same f g [] same = refl
map_same f g (x ∷ xs) same = λ i. same 0 (omega arith) i ∷ map_same f g xs (λ j h. same (suc j) (omega arith)) i

-- If the number of a node is put at place g, the node's key is put at place g of the keys.
pub keys_of-insert : (ns : List Node) (xs : List ℕ) (g i : ℕ) →
    keys_of ns (insert xs g i) ≡ insert (keys_of ns xs) g (key_at ns i)
keys_of-insert ns xs g i = map-append (key_at ns) (take g xs) (i ∷ drop g xs)
    ∙ (λ j. sym (take-map (key_at ns) g xs) j ++ key_at ns i ∷ sym (drop-map (key_at ns) g xs) j)

-- an item after place g, where x was put
pub insert_above : {X : Type 0} (xs : List X) (g : ℕ) (x d : X) → g ≤ length xs → (j : ℕ) → g < j →
    get_or (insert xs g x) j d ≡ get_or xs (j - 1) d
insert_above xs g x d within j h = grind (arith, get_or-insert_above xs g x d (j - 1))

-- a write keeps what it does not change
pub touched : {X : Type 0} (f : Node → X) (ns : List Node) (i : ℕ) (m : Node) → f m ≡ f (at ns i) → (j : ℕ) →
    f (at (set ns i m) j) ≡ f (at ns j)
touched f ns i m e j =
    grind (arith, get_or-set_same ns i m no_node, get_or-set_other ns i j m no_node, set_past ns i m)

-- One more list that is empty changes no list.
pub pushed : (cs : List (List ℕ)) (j : ℕ) → children_at (cs ++ [] ∷ []) j ≡ children_at cs j
pushed cs j =
    let before = get_or_append_left cs ([] ∷ []) [] j in let new = get_or_push cs [] [] j in
    let past = get_or_past cs j [] in let behind = get_or_past (cs ++ [] ∷ []) j [] in
    grind (arith, before, new, past, behind, length_push cs [])

-- What the last keys of a path are.
pub ruleset last_keys = (get_or-map, length-map, nat_tests)

-- an entry at the place after the last is added at the end
pub put_push : (i : ℕ) (q : Path) (n : ℕ) (u : Bool) (s : Listed) → i ≡ length s →
    put i q n u s ≡ s ++ record { path = q; bytes = n; is_unique = u } ∷ []
put_push i q n u [] e = refl
put_push zero q n u (x ∷ s) e = absurd (omega arith)
put_push (suc i) q n u (x ∷ s) e = ap (λ (t : Listed). x ∷ t) (put_push i q n u s (omega arith))

-- the path of a sum
abbrev pub path_of : Sum → Path
path_of e = e.path

-- ---- the nodes ns, if ps are the paths of the nodes before them
-- the sums have a place for each node
length-grow : (ps : List Path) (ns : List Node) → length (grow ps ns) ≡ length ns
length-grow ps [] = refl
length-grow ps (n ∷ ns) = ap suc (length-grow (ps ++ path_of (sum_from ps n) ∷ []) ns)

-- If there is a node before it, the path of a node is its parent's path with the node's key.
pub path_from-some : (ps : List Path) (i : ℕ) (k : Key) → 0 < length ps → path_from ps i k ≡ get_or ps i [] ++ k ∷ []
path_from-some [] i k some = absurd (omega arith)
path_from-some (p ∷ ps) i k some = refl

-- the path of a node after the first comes from that of a node before it
path-grow : (ps : List Path) (ns : List Node) (j : ℕ) → j < length ns → 0 < length ps + j →
    parent_at ns j < length ps + j
    → path_at (grow ps ns) j ≡ get_or (ps ++ map path_of (grow ps ns)) (parent_at ns j) [] ++ key_at ns j ∷ []
path-grow ps [] j h some lt = absurd (omega arith)
path-grow ps (n ∷ ns) zero h some lt = path_from-some ps n.parent n.key (omega arith)
    ∙ ap (λ (p : Path). p ++ n.key ∷ []) (sym (get_or_append_left ps _ [] n.parent (omega arith)))
path-grow ps (n ∷ ns) (suc j) h some lt =
    let p = path_of (sum_from ps n) in
    let len = length_push ps p in
    path-grow (ps ++ p ∷ []) ns j (omega arith) (omega arith) (omega arith)
    ∙ ap (λ (l : List Path). get_or l (parent_at ns j) [] ++ key_at ns j ∷ []) (append_assoc ps (p ∷ []) _)

-- a node's own figures
pub figures-grow : (ps : List Path) (ns : List Node) (j : ℕ) →
    (let e = get_or (grow ps ns) j root_sum in let n = at ns j in (e.bytes ≡ n.bytes) × (e.is_unique ≡ n.is_unique))
figures-grow ps [] j = (refl, refl)
figures-grow ps (n ∷ ns) zero = (refl, refl)
figures-grow ps (n ∷ ns) (suc j) = figures-grow (ps ++ path_of (sum_from ps n) ∷ []) ns j

-- a node at the end adds its sum at the end
pub grow_push : (ps : List Path) (ns : List Node) (n : Node) →
    grow ps (ns ++ n ∷ []) ≡ grow ps ns ++ sum_from (ps ++ map path_of (grow ps ns)) n ∷ []
grow_push ps [] n = ap (λ (l : List Path). sum_from l n ∷ []) (sym (append-nil ps))
grow_push ps (m ∷ ns) n =
    let p = path_of (sum_from ps m) in
    rw (grow_push (ps ++ p ∷ []) ns n, append_assoc ps (p ∷ []) (map path_of (grow (ps ++ p ∷ []) ns))) refl

-- an entry at a node, which becomes m, is one at its place
pub grow_set : (ps : List Path) (ns : List Node) (i : ℕ) (m : Node) (q : Path) (n : ℕ) (u : Bool) → i < length ns →
    ((qs : List Path) → sum_from qs m ≡ raise n u (sum_from qs (at ns i))) →
    grow ps (set ns i m) ≡ put i q n u (grow ps ns)
grow_set ps [] i m q n u h is = absurd (omega arith)
grow_set ps (k ∷ ns) zero m q n u h is = λ j. is ps j ∷ grow (ps ++ path_of (is ps j) ∷ []) ns
grow_set ps (k ∷ ns) (suc i) m q n u h is = ap (λ (t : Listed). sum_from ps k ∷ t)
    (grow_set (ps ++ path_of (sum_from ps k) ∷ []) ns i m q n u (omega arith) is)

-- ---- all nodes
-- There are as many sums as nodes.
pub length_sums : (ns : List Node) → length (sums ns) ≡ length ns
length_sums = length-grow []

-- The path at place 0 is the root.
pub root_at : (ns : List Node) → path_at (sums ns) 0 ≡ []
root_at [] = refl
root_at (n ∷ ns) = refl

-- a path with a key is not the root's
pub not_nil : (p : Path) (k : Key) (q : Path) → p ++ k ∷ q ≡ [] → ⊥
not_nil [] k q e = cc
not_nil (x ∷ p) k q e = cc

module _ (ns : List Node) {cs : List (List ℕ)} (ok : IsArena ns cs) where
  -- the path of another node is its parent's with one more key
  pub step : (i : ℕ) → 0 < i → i < length ns →
      path_at (sums ns) i ≡ path_at (sums ns) (parent_at ns i) ++ key_at ns i ∷ []
  step i pos h =
      let above = get_or-map path_of (sums ns) (parent_at ns i) root_sum [] (omega (arith, length_sums ns)) in
      path-grow [] ns i h (omega arith) (omega (arith, ok.parents i pos h)) ∙ rw above refl

  -- the key at a child's place
  pub key_place : (p i : ℕ) (c : IsChild ns p i) →
      (let a = ok.listed p i c in (a.0 < length (keys_at ns cs p)) × (key_in (keys_at ns cs p) a.0 ≡ key_at ns i))
  key_place p i c =
      let a = ok.listed p i c in (
        omega (arith, length-map (children_at cs p) (key_at ns), a.1),
        get_or-map (key_at ns) (children_at cs p) a.0 i [] a.1 ∙ ap (key_at ns) a.2,
      )

  -- two children of one parent with one key are one
  one_child : (i j : ℕ) → 0 < i → i < length ns → 0 < j → j < length ns → parent_at ns i ≡ parent_at ns j →
      key_at ns i ≡ key_at ns j → i ≡ j
  one_child i j pi hi pj hj parents keys =
      let p = parent_at ns j in
      let ci : IsChild ns p i = record { not_root = pi; in_range = hi; parent = parents } in
      let cj : IsChild ns p j = record { not_root = pj; in_range = hj; parent = refl } in
      let a = key_place p i ci in
      let b = key_place p j cj in
      let x = ok.listed p i ci in
      let y = ok.listed p j cj in
      let place : x.0 ≡ y.0 =
      grind (arith, ok.rise p x.0 y.0, ok.rise p y.0 x.0, tied_itself key_total (key_at ns i), a, b, keys) in
      let same = get_or_default (children_at cs p) x.0 i j x.1 in
      cc

  distinct_below : (n i j : ℕ) → i < n → i < length ns → j < length ns → path_at (sums ns) i ≡ path_at (sums ns) j →
      i ≡ j
  distinct_below zero i j lt hi hj e = absurd (omega arith)
  distinct_below (suc n) i j lt hi hj e =
      let up =
      λ (j : ℕ) (pos : 0 < j) (h : j < length ns). not_nil (path_at (sums ns) (parent_at ns j)) (key_at ns j) [] in
      let last = same_from_push (path_at (sums ns) (parent_at ns i)) (path_at (sums ns) (parent_at ns j)) (key_at ns i)
      (key_at ns j) in
      let before = distinct_below n (parent_at ns i) (parent_at ns j) in
      grind (arith, root_at ns, step i, step j, up i, up j, ok.parents i, ok.parents j, last, before, one_child i j)

  -- no two nodes have one path
  pub distinct : (i j : ℕ) → i < length ns → j < length ns → path_at (sums ns) i ≡ path_at (sums ns) j → i ≡ j
  distinct i j = distinct_below (suc i) i j (omega arith)

-- the nodes with a new one under p, whose key is k
abbrev pub grown : List Node → ℕ → Key → List Node
grown ns p k = ns ++ leaf p k ∷ []

-- the lists of children if the number n is put at place g of that of p, and one more list is empty
abbrev pub with_child : List (List ℕ) → ℕ → ℕ → ℕ → List (List ℕ)
with_child cs p g n = set cs p (insert (children_at cs p) g n) ++ [] ∷ []

-- keys stay in order when a key is put into its gap
rise_insert : (ks : List Key) (k : Key) (g : ℕ) → IsKeyGap ks k g → KeysRise ks → KeysRise (insert ks g k)
rise_insert ks k g gap rise i j lt h =
    let len = length-insert ks g k gap.in_range in
    let within = gap.in_range in
    let after : (j : ℕ) → g ≤ j → j < length ks → key_cmp k (key_in ks j) ≡ Less =
    λ j le h. key_total.antisymm k (key_in ks j) ∙ ap ordering_reverse (gap.greater_after j le h) in
    let here = get_or-insert_at ks g k [] within in
    let low = λ (i : ℕ) (h : i < g). get_or-insert_below ks g k [] i h within in
    let high = insert_above ks g k [] within in
    let low_i = low i in let low_j = low j in let high_i = high i in let high_j = high j in
    let below = gap.smaller_before i in let above = after (j - 1) in
    grind (arith, here, low_i, low_j, high_i, high_j, below, above, rise i j, rise i (j - 1), rise (i - 1) (j - 1))

module _ (ns : List Node) {cs : List (List ℕ)} (ok : IsArena ns cs) (p : ℕ) (hp : p < length ns) (k : Key) (g : ℕ)
    (gap : IsKeyGap (keys_at ns cs p) k g) where
  abbrev new : List Node
  new = grown ns p k

  abbrev lists : List (List ℕ)
  lists = with_child cs p g (length ns)

  length_grown : length new ≡ length ns + 1
  length_grown = length_push ns (leaf p k)

  at_leaf : at new (length ns) ≡ leaf p k
  at_leaf = get_or_push ns (leaf p k) no_node (length ns) refl

  -- the nodes before are unchanged
  before : (i : ℕ) → i < length ns → at new i ≡ at ns i
  before i h = get_or_append_left ns _ no_node i h

  parent_before : (i : ℕ) → i < length ns → parent_at new i ≡ parent_at ns i
  parent_before i h = ap (λ (n : Node). n.parent) (before i h)

  children_other : (q : ℕ) → q ≢ p → children_at lists q ≡ children_at cs q
  children_other q ne = pushed (set cs p _) q ∙ get_or-set_other cs p q _ [] ne

  children_parent : children_at lists p ≡ insert (children_at cs p) g (length ns)
  children_parent = pushed (set cs p _) p ∙ get_or-set_same cs p _ [] (omega (arith, hp, ok.lists))

  -- the keys of the children before
  keys_stood : (q : ℕ) → keys_of new (children_at cs q) ≡ keys_at ns cs q
  keys_stood q = map_same (key_at new) (key_at ns) (children_at cs q)
      (λ j h. ap (λ (n : Node). n.key) (before (get_or (children_at cs q) j 0) (ok.children q j 0 h).in_range))

  keys_parent : keys_of new (insert (children_at cs p) g (length ns)) ≡ insert (keys_at ns cs p) g k
  keys_parent = keys_of-insert new (children_at cs p) g (length ns)
      ∙ (λ i. insert (keys_stood p i) g (ap (λ (n : Node). n.key) at_leaf i))

  -- what holds of the new children of p and of the others as they were
  by_parent : (P : ℕ → List ℕ → Type 0) → P p (insert (children_at cs p) g (length ns)) →
      ((q : ℕ) → q ≢ p → P q (children_at cs q)) → (q : ℕ) → P q (children_at lists q)
  by_parent P here others q = elim (cases_eq q p) [
    | inl e ↦ subst (λ (x : ℕ). P x (children_at lists x)) (sym e) (subst (P p) (sym children_parent) here)
    | inr ne ↦ subst (P q) (sym (children_other q ne)) (others q ne)
  ]

  child_before : (q i : ℕ) → IsChild ns q i → IsChild new q i
  child_before q i old = let n = length_grown in let same = parent_before i old.in_range in search (rules, arith)

  stood : (q i : ℕ) → i ≢ length ns → IsChild new q i → Contains (children_at cs q) i
  stood q i ne c =
      let inside : i < length ns = omega (arith, length_grown, c.in_range) in
      let same = parent_before i inside in ok.listed q i (search rules)

  listed : (q i : ℕ) → IsChild new q i → Contains (children_at lists q) i
  listed q i = by_parent (λ x xs. IsChild new x i → Contains xs i)
      (λ c. Contains-permutation (length ns ∷ children_at cs p) _ i
      (IsPermutation-insert (children_at cs p) g (length ns))
      (elim (cases_eq i (length ns)) [
        | inl e ↦ (0, omega arith, sym e)
        | inr ne ↦ Contains-append_right (length ns ∷ []) (children_at cs p) i (stood p i ne c)
      ]))
      (λ q other c. stood q i (λ e. other (sym c.parent
      ∙ (ap (parent_at new) e ∙ ap (λ (n : Node). n.parent) at_leaf))) c) q

  -- An arena with one node more is an arena.
  pub arena_grown : IsArena (grown ns p k) (with_child cs p g (length ns))
  arena_grown = record {
    rooted = omega (arith, length_grown);
    root_empty = ap (λ (n : Node). n.bytes) (before 0 ok.rooted) ∙ ok.root_empty;
    root_parent = parent_before 0 ok.rooted ∙ ok.root_parent;
    parents =
        λ i pos h. grind (arith, length_grown, parent_before i, ok.parents i pos, ap (λ (n : Node). n.parent) at_leaf);
    lists = let same = length-set cs p (insert (children_at cs p) g (length ns)) in
        omega (arith, length_grown, ok.lists, length_push (set cs p (insert (children_at cs p) g (length ns))) []);
    listed = listed;
    children = by_parent (λ q. All (IsChild new q))
        (let xs = children_at cs p in
        let old = All-weaker (IsChild ns p) (IsChild new p) (child_before p) xs (ok.children p) in
        let parent = ap (λ (n : Node). n.parent) at_leaf in
        let one : IsChild new p (length ns) = let n = length_grown in search (rules, arith, ok.rooted) in
        All-permutation (IsChild new p) (length ns ∷ xs) _ (IsPermutation-insert xs g (length ns))
        (All-cons (IsChild new p) (length ns) xs one old))
        (λ q ne. All-weaker (IsChild ns q) (IsChild new q) (child_before q) (children_at cs q) (ok.children q));
    rise = by_parent (λ q xs. KeysRise (keys_of new xs))
        (subst KeysRise (sym keys_parent) (rise_insert (keys_at ns cs p) k g gap (ok.rise p)))
        (λ q ne. subst KeysRise (sym (keys_stood q)) (ok.rise q));
  }

-- ---- a node that is written
-- node i becomes m, with the same key and parent, and with the same bytes if it is the root
module _ (ns : List Node) {cs : List (List ℕ)} (ok : IsArena ns cs) (i : ℕ) (m : Node) (key : m.key ≡ key_at ns i)
    (parent : m.parent ≡ parent_at ns i) (bytes : 0 ≡ i → m.bytes ≡ bytes_at ns i) where
  length_set : length (set ns i m) ≡ length ns
  length_set = length-set ns i m

  parent_kept : (j : ℕ) → parent_at (set ns i m) j ≡ parent_at ns j
  parent_kept = touched (λ n. n.parent) ns i m parent

  -- An arena in which a node is replaced by one with the same parent is an arena.
  pub arena_set : IsArena (set ns i m) cs
  arena_set = record {
    rooted = omega (arith, length_set, ok.rooted);
    root_empty = let same = get_or-set_same ns i m no_node in
        grind (arith, bytes, ok.root_empty, same, get_or-set_other ns i 0 m no_node, set_past ns i m);
    root_parent = parent_kept 0 ∙ ok.root_parent;
    parents = λ j pj hj. rw (parent_kept j) (ok.parents j pj (omega (arith, length_set)));
    lists = omega (arith, length_set, ok.lists);
    listed = λ p j c. ok.listed p j (let n = length_set in let same = parent_kept j in search (rules, arith));
    children = λ p. All-weaker (IsChild ns p) (IsChild (set ns i m) p)
        (λ j old. let n = length_set in let same = parent_kept j in search (rules, arith)) (children_at cs p)
        (ok.children p);
    rise = λ p. subst KeysRise (sym (map_same (key_at (set ns i m)) (key_at ns) (children_at cs p)
        (λ j h. touched (λ n. n.key) ns i m key _))) (ok.rise p);
  }

-- each path that was listed before keeps its place
path_put : (i : ℕ) (p : Path) (n : ℕ) (u : Bool) (s : Listed) (j : ℕ) → j < length s →
    path_at (put i p n u s) j ≡ path_at s j
path_put i p n u [] j h = absurd (omega arith)
path_put zero p n u (e ∷ s) zero h = refl
path_put zero p n u (e ∷ s) (suc j) h = refl
path_put (suc i) p n u (e ∷ s) zero h = refl
path_put (suc i) p n u (e ∷ s) (suc j) h = path_put i p n u s j (omega arith)

-- One more entry makes the list longer by one place or leaves its length.
length_put : (i : ℕ) (p : Path) (n : ℕ) (u : Bool) (s : Listed) →
    (length s ≤ length (put i p n u s)) × (length (put i p n u s) ≤ length s + 1)
length_put i p n u [] = (omega arith, omega arith)
length_put zero p n u (e ∷ s) = (omega arith, omega arith)
length_put (suc i) p n u (e ∷ s) = let more = length_put i p n u s in (omega (arith, more.0), omega (arith, more.1))

-- An entry of 0 bytes changes no sum.
pub raise_nothing : (e : Sum) → raise 0 false e ≡ e
raise_nothing e = λ k.
    record { path = e.path; bytes = add-zero e.bytes k; is_unique = or-false e.is_unique k }

-- an entry of 0 bytes at a place that is there changes nothing
pub put_nothing : (i : ℕ) (p : Path) (s : Listed) → i < length s → put i p 0 false s ≡ s
put_nothing i p [] h = absurd (omega arith)
put_nothing zero p (e ∷ s) h = λ k. raise_nothing e k ∷ s
put_nothing (suc i) p (e ∷ s) h = ap (λ (t : Listed). e ∷ t) (put_nothing i p s (omega arith))

-- an entry of 0 bytes before another one changes nothing
put_put : (i : ℕ) (p : Path) (n : ℕ) (u : Bool) (s : Listed) → i ≤ length s →
    put i p n u (put i p 0 false s) ≡ put i p n u s
put_put zero p n u [] h = ap (λ (m : ℕ). record { path = p; bytes = m; is_unique = u } ∷ []) (zero-add n)
put_put (suc i) p n u [] h = absurd (omega arith)
put_put zero p n u (e ∷ s) h = ap (put zero p n u) (put_nothing zero p (e ∷ s) (omega arith))
put_put (suc i) p n u (e ∷ s) h = ap (λ (t : Listed). e ∷ t) (put_put i p n u s (omega arith))

-- an entry of 0 bytes, and then one at the place of the first
pub entered_twice : (old mid new : Listed) (at : ℕ) (k : Key) (n : ℕ) (u : Bool) (i : ℕ) →
    IsEntered old mid at k 0 false i → new ≡ put i (path_at mid i) n u mid → IsEntered old new at k n u i
entered_twice old mid new at k n u i first second =
    let q : Path = path_at old at ++ k ∷ [] in
    let same = ap length first.sums in
    let le = length_put i q 0 false old in
    let more = length_put i (path_at mid i) n u mid in
    let twice = put_put i q n u old (omega (arith, le.1, first.within)) in
    let path = path_put i (path_at mid i) n u mid i first.within in
    rw second (record {
      sums = rw (first.path, first.sums) twice;
      not_root = first.not_root;
      within = omega (arith, more.0, first.within);
      path = path ∙ first.path;
      sole = first.sole;
    })

-- ---- at an entry
module _ {old new : Listed} {at : ℕ} {k : Key} {n : ℕ} {u : Bool} {i : ℕ} (entered : IsEntered old new at k n u i) where
  -- Entering removes no path.
  pub length_entered : length old ≤ length new
  length_entered = let longer = length_put i (path_at old at ++ k ∷ []) n u old in let same = ap length entered.sums in
      omega (arith, longer.0)

  -- a path keeps its place
  pub path_entered : (j : ℕ) → j < length old → path_at new j ≡ path_at old j
  path_entered j h = ap (λ (s : Listed). path_at s j) entered.sums ∙ path_put i (path_at old at ++ k ∷ []) n u old j h

-- What the map has at a path is what a search of the rows finds there.
get-map_of : (s : Listed) (q : Path) → get (map_of s) q ≡ find path_cmp q (rows s)
get-map_of s q = get-from_entries path_total (rows s) q

-- If r + 1 equals e + 1, r equals e.
tail_apart : (r e : ℕ) → suc r ≡ suc e → r ≡ e
tail_apart r e w = omega arith

-- ---- one more entry
-- After an entry at the only place of p, a search finds it added at p, and finds no change at other paths.
find-put : (i : ℕ) (p q : Path) (n : ℕ) (u : Bool) (s : Listed) → path_at (put i p n u s) i ≡ p →
    ((j : ℕ) → j < length s → path_at s j ≡ p → j ≡ i) →
    find path_cmp q (map row (put i p n u s))
    ≡ cond (is_same_path q p) (Some (together (find path_cmp p (map row s)) (record { bytes = n; is_unique = u })))
    (find path_cmp q (map row s))
find-put i p q n u [] is sole = refl
find-put zero p q n u (e ∷ s) is sole =
    grind (arith, nat_tests, ap (is_same_path q) is, same_path-same p e.path (sym is))
find-put (suc i) p q n u (e ∷ s) is sole =
    let apart : p ≢ e.path = λ w. (let same : 0 ≡ suc i = sole 0 (omega arith) (sym w) in omega arith) in
    let other : is_same_path p e.path ≡ false = same_path-apart p e.path apart in
    let rest = find-put i p q n u s is (λ j h w. tail_apart j i (sole (suc j) (omega arith) w)) in
    grind (arith, nat_tests, other, rest, apart, same_path q p, same_path q e.path)

abbrev pub mark_of : Bool → Mark
mark_of u = cond u AsUnique AsInline

-- The mark made from u is unique exactly if u is true.
mark_is : (u : Bool) → is_unique_mark (mark_of u) ≡ u
mark_is true = refl
mark_is false = refl

-- an entry below the root is added to the map too
pub map_of-entered : {old new : Listed} {at : ℕ} {k : Key} {n : ℕ} {u : Bool} {i : ℕ} → IsEntered old new at k n u i →
    0 < length old
    → map_of new ≡ bag.add (map_of old) (record { path = path_at old at ++ k ∷ []; size = n; mark = mark_of u })
map_of-entered {old = []} entered some = absurd (omega arith)
map_of-entered {old = r ∷ s} {i = zero} entered some = absurd (omega (arith, entered.not_root))
map_of-entered {old = r ∷ s} {at = at} {k = k} {n = n} {u = u} {i = suc i} entered some =
    let p : Path = path_at (r ∷ s) at ++ k ∷ [] in
    let is = ap (λ (t : Listed). path_at t (suc i)) (sym entered.sums) ∙ entered.path in
    let sole =
    λ (j : ℕ) (h : j < length s) (w : path_at s j ≡ p). tail_apart j i (entered.sole (suc j) (omega arith) w) in
    ap map_of entered.sums ∙ same_sums _ _ (λ q.
    let new = get-from_entries path_total (map row (put i p n u s)) q in
    let old = get-from_entries path_total (map row s) in
    let added = get-add (map_of (r ∷ s)) (record { path = p; size = n; mark = mark_of u }) q in
    grind (arith, new, old p, old q, find-put i p q n u s is sole, mark_is u, added))

-- an entry adds its bytes
pub bytes_more : {old new : Listed} {at : ℕ} {k : Key} {n : ℕ} {u : Bool} {i : ℕ} → IsEntered old new at k n u i →
    0 < length old → bytes_entered (map_of new) ≡ bytes_entered (map_of old) + n
bytes_more {old} {at = at} {k = k} {n = n} {u = u} entered some = ap bytes_entered (map_of-entered entered some)
    ∙ bytes_entered-add (map_of old) (record { path = path_at old at ++ k ∷ []; size = n; mark = mark_of u })

-- What is found at a path has at most the bytes of all rows.
pub found_fits : (q : Path) {x : Entered} (es : List (Path × Entered)) → find path_cmp q es ≡ Some x →
    x.bytes ≤ sum_by (λ (e : Path × Entered). e.1.bytes) es
found_fits q {x} [] is = absurd cc
found_fits q {x} (e ∷ es) is =
    grind (arith, is, found_fits q {x = x} es, sum_by-cons (λ (e : Path × Entered). e.1.bytes) e es)

-- ---- the places of different paths
abbrev pub Distinct : Listed → Type 0
Distinct s = (i j : ℕ) → i < length s → j < length s → path_at s i ≡ path_at s j → i ≡ j

-- If all paths of a list differ, so do those after the first.
tail_distinct : (e : Sum) (s : Listed) → Distinct (e ∷ s) → Distinct s
tail_distinct e s apart a b ha hb w = tail_apart a b (apart (suc a) (suc b) (omega arith) (omega arith) w)

-- A list of paths with their sums: the root is first, with no bytes, and no path is there twice.
pub record IsListing (s : Listed) : Type 0 where
  pub rooted : 0 < length s
  pub root_path : path_at s 0 ≡ []
  pub root_bytes : (let e = sum_at s 0 in e.bytes) ≡ 0
  pub apart : Distinct s

-- If no place of a list has the path q, a search of its rows for q finds nothing.
find_none : (q : Path) (s : Listed) → ((i : ℕ) → i < length s → path_at s i ≢ q) → find path_cmp q (map row s) ≡ None
find_none q [] other = refl
find_none q (e ∷ s) other =
    grind (arith, same_path q e.path, other 0 (omega arith), find_none q s (λ i h. other (suc i) (omega arith)))

-- If all paths of a list differ, a search for the path of place i finds what was entered at place i.
find_at : (s : Listed) → Distinct s → (i : ℕ) → i < length s →
    find path_cmp (path_at s i) (map row s) ≡ Some (row (sum_at s i)).1
find_at [] apart i h = absurd (omega arith)
find_at (e ∷ s) apart zero h = cond-true (is_same_path e.path e.path) _ _ (same_path-same e.path e.path refl)
find_at (e ∷ s) apart (suc i) h =
    let other = apart (suc i) 0 h (omega arith) in
    let rest = find_at s (tail_distinct e s apart) i (omega arith) in
    grind (arith, same_path (path_at s i) e.path, other, rest)

-- ---- what the map has
-- At the path of each place but the root's, the map has what was entered there.
pub get_at : (s : Listed) → IsListing s → (i : ℕ) → 0 < i → i < length s →
    get (map_of s) (path_at s i) ≡ Some (row (sum_at s i)).1
get_at [] ok i pos h = absurd (omega arith)
get_at (r ∷ s) ok zero pos h = absurd (omega arith)
get_at (r ∷ s) ok (suc i) pos h = get-map_of (r ∷ s) (path_at s i)
    ∙ find_at s (tail_distinct r s ok.apart) i (omega arith)

-- If no place but the root's has the path q, the map has nothing at q.
pub get_none : (s : Listed) → (q : Path) → ((i : ℕ) → 0 < i → i < length s → path_at s i ≢ q) → get (map_of s) q ≡ None
get_none [] q other = get-map_of [] q
get_none (r ∷ s) q other = get-map_of (r ∷ s) q ∙ find_none q s (λ i h. other (suc i) (omega arith) (omega arith))

-- ---- the graph
-- At each path but the root, the graph has what remains of the bytes that the map has there.
graph_get : (m : Sums) (q : Path) → q ≢ [] → get (graph m) q ≡ option_map (remaining m q) (get m q)
graph_get m [] other = absurd (other refl)
graph_get m (k ∷ q) other = get-graph m k q

-- At the path of each place, the graph has the size of the place.
pub graph_hit : (s : Listed) → IsListing s → (i : ℕ) → i < length s →
    get (graph (map_of s)) (path_at s i) ≡ Some (size_at_place s i)
graph_hit s ok zero h = grind (arith, nat_tests, ok.root_path, ok.root_bytes, get-graph-root (map_of s))
graph_hit s ok (suc i) h =
    let p = path_at s (suc i) in
    graph_get (map_of s) p (λ w. (let same = ok.apart (suc i) 0 h ok.rooted (w ∙ sym ok.root_path) in omega arith))
    ∙ ap (option_map (remaining (map_of s) p)) (get_at s ok (suc i) (omega arith) h)

-- If no place has the path q, the graph has nothing at q.
pub graph_none : (s : Listed) → IsListing s → (q : Path) → ((i : ℕ) → i < length s → path_at s i ≢ q) →
    get (graph (map_of s)) q ≡ None
graph_none s ok q other = graph_get (map_of s) q (λ w. other 0 ok.rooted (ok.root_path ∙ sym w))
    ∙ ap (option_map (remaining (map_of s) q)) (get_none s q (λ i pos. other i))

-- ---- sums over the map
-- rows with different paths have the same bytes below p as their map
below_rows : (s : Listed) → Distinct s → (p : Path) →
    bag.below (from_entries (map row s)) p ≡ sum_by (λ e. cond (is_one_below p e.path) e.bytes 0) s
below_rows [] apart p = ap (sum_by (λ (e : Path × Entered). cond (is_one_below p e.0) e.1.bytes 0)) entries-empty
below_rows (e ∷ s) apart p =
    let entry : Entry = record { path = e.path; size = e.bytes; mark = mark_of e.is_unique } in
    let none = get-from_entries path_total (map row s) e.path
    ∙ find_none e.path s (λ i h w. (let same : suc i ≡ 0 = apart (suc i) 0 (omega arith) (omega arith) w in
    omega arith)) in
    let added : from_entries (map row (e ∷ s)) ≡ bag.add (from_entries (map row s)) entry =
    rw (none, mark_is e.is_unique) refl in
    let rest = below_rows s (tail_distinct e s apart) p in
    ap (λ (m : Sums). bag.below m p) added ∙ (below-add (from_entries (map row s)) entry p
    ∙ omega (arith, sum_by-cons (λ (x : Sum). cond (is_one_below p x.path) x.bytes 0) e s))

-- The root is one key below no path.
pub not_below_root : (p : Path) → is_one_below p [] ≡ false
not_below_root [] = refl
not_below_root (k ∷ p) = refl

-- the map and the list have the same bytes below p
pub below_listed : (s : Listed) → IsListing s → (p : Path) →
    sum_by (λ e. cond (is_one_below p e.path) e.bytes 0) s ≡ bag.below (map_of s) p
below_listed [] ok p = absurd (omega (arith, ok.rooted))
below_listed (r ∷ s) ok p =
    let none : cond (is_one_below p r.path) r.bytes 0 ≡ 0 = rw (ok.root_path, not_below_root p) refl in
    let rest = below_rows s (tail_distinct r s ok.apart) p in
    omega (arith, sum_by-cons (λ (e : Sum). cond (is_one_below p e.path) e.bytes 0) r s)
