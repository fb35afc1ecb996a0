-- What a read of a node says of the arena and the sums, what a search among its children says, and what the walk of
-- `build_graph` has passed behind a node's path, child by child.
use Rattle.std.proofs.Common.{◌≡◌, ◌≢◌, ℕ, zero, suc, ◌<◌, false, List, [], ◌∷◌, ◌++◌, length, sym, ap, ◌∙◌, rules}
use Rattle.std.proofs.Common.{arith, refl, append_assoc, map, Bool, not, get_or, sum_by, cond, ltb, sum, lt-ltb, ◌+◌}
use Rattle.std.proofs.Common.{◌≤◌, ◌||◌, set, length-set, get_or-set_same, get_or-set_other, true, T, Option, Some}
use Rattle.std.proofs.Common.{None, true≢false, flat_map, append-nil}
use Rattle.allocative_collectors.proofs.Common.{nat_tests, common_steps, Key, Path, path_at, IsEntered, Listed}
use Rattle.allocative_collectors.proofs.Common.{root_sum, Node, put, leaf, sums, keys_at, key_in, key_at, parent_at}
use Rattle.allocative_collectors.proofs.Common.{IsChild, IsArena, IsKeyGap, is_same_path, Sum, sum_at, map_of, no_node}
use Rattle.allocative_collectors.proofs.Common.{at, bytes_at, is_one_below, is_root, below, children_at, get_or_default}
use Rattle.allocative_collectors.proofs.Common.{IsTree, length-map, get_or-map, get_or_push, length_push}
use Rattle.allocative_collectors.proofs.Common.{same_from_push, tied_itself, cond-false, entries, bytes_entered}
use Rattle.allocative_collectors.proofs.Common.{sum_by-cons, Children, numbers, HasKey, keys_of, KeysRise, insert, All}
use Rattle.allocative_collectors.proofs.Common.{IsAbove, map-set, map_push, sum_from, map-set_same, Less, is_eq, is_lt}
use Rattle.allocative_collectors.proofs.Common.{key_cmp, path_cmp, Sums, Graph, graph, sum_of, under, default, add_self}
use Rattle.allocative_collectors.proofs.Common.{get, row, size_at_place, MakesPart, MakesGraph, rows_behind, is_short}
use Rattle.allocative_collectors.proofs.Common.{tied_then, flat_map-append, ComesLast, filter, cond_both}
use Rattle.allocative_graph.proofs.Sums.{one_below_is}
use Rattle.allocative_collectors.proofs.Arena.{key_total, same_path-same, same_path-apart, map_same, path_of}
use Rattle.allocative_collectors.proofs.Arena.{path_from-some, grow_push, grow_set, put_push, length_sums, not_nil}
use Rattle.allocative_collectors.proofs.Arena.{root_at, step, key_place, distinct, figures-grow, grown, arena_set}
use Rattle.allocative_collectors.proofs.Arena.{arena_grown, key_same, put_nothing, raise_nothing, IsListing}
use Rattle.allocative_collectors.proofs.Arena.{below_listed, not_below_root, get_at, found_fits, graph_hit, graph_none}
use Rattle.allocative_collectors.proofs.Arena.{get_none}
use Rattle.std.specs.FinMap.{get-entries, FinMap, entries_sorted, find, get-insert}
use Rattle.std.proofs.lemmas.List.Sums.{sum_by-set, sum_by-le, sum-map, sum_by-append, sum_by-le-sum_by}
use Rattle.std.proofs.lemmas.List.Elements.{All-contains, All-weaker}
use Rattle.std.proofs.lemmas.Slice.Eq.{bytes_eq-Decides}
use Rattle.allocative_collectors.specs.declared.children.Children.TheVariants.{Empty}
use Rattle.std.specs.FinMap.Entries.{is_sorted, below_all, is_sorted-where_key, find-where_key, same_entries}
use Rattle.std.proofs.Math.Facts.{and_yes}
use Rattle.allocative_graph.proofs.Basics.{path_total, path_antisymmetric, same_path, is_eq-Equal}
use Rattle.allocative_collectors.specs.Warned.{behind}
use Rattle.std.proofs.lemmas.List.Filters.{sum_by-filter_both}
use Rattle.allocative_graph.specs.Graph.{total, remaining, warned, size_at, Warned}
use Rattle.allocative_graph.specs.Sums.{Node as Entered}
use Rattle.allocative_graph.proofs.Showings.{get-sum_of}
use Rattle.allocative_graph.proofs.Graphs.{sizes_together, get-under, get-under-root, get-default, total-sum_of}
use Rattle.allocative_graph.proofs.Graphs.{total-under, total-add_at, total-default}

-- ---- what a search among a node's children says
-- at a gap no child has the key
gap_none : (ks : List Key) (k : Key) (g : ℕ) → IsKeyGap ks k g → (j : ℕ) → j < length ks → key_in ks j ≡ k → ⊥
gap_none ks k g gap j h e =
    grind (arith, tied_itself key_total (key_in ks j), gap.smaller_before j, gap.greater_after j)

-- a nonempty path is a beginning and a last key
last_of : (k : Key) (q : Path) → (q' : Path) × (l : Key) × (k ∷ q ≡ q' ++ l ∷ [])
last_of k [] = ([], k, refl)
last_of k (x ∷ q) = let more = last_of x q in (k ∷ more.0, more.1, ap (λ (y : Path). k ∷ y) more.2)

module _ (ns : List Node) {cs : List (List ℕ)} (ok : IsArena ns cs) (p : ℕ) (hp : p < length ns) (k : Key) where
  -- an entry of 0 bytes at a child with the key
  pub was_entered : (i : ℕ) → IsChild ns p i → key_at ns i ≡ k → IsEntered (sums ns) (sums ns) p k 0 false i
  was_entered i c key =
      let inside : i < length (sums ns) = omega (arith, length_sums ns, c.in_range) in
      let path : path_at (sums ns) i ≡ path_at (sums ns) p ++ k ∷ [] =
      step ns ok i c.not_root c.in_range ∙ (λ j. path_at (sums ns) (c.parent j) ++ key j ∷ []) in
      let same = put_nothing i (path_at (sums ns) p ++ k ∷ []) (sums ns) inside in
      let sole : (j : ℕ) → j < length (sums ns) → path_at (sums ns) j ≡ path_at (sums ns) p ++ k ∷ [] → j ≡ i =
      λ j h e. distinct ns ok j i (omega (arith, length_sums ns)) c.in_range (e ∙ sym path) in
      search (rules, arith)

  -- a node whose path is p's with the key is that child
  pub child_of : (i : ℕ) → i < length ns → path_at (sums ns) i ≡ path_at (sums ns) p ++ k ∷ [] →
      IsChild ns p i × (key_at ns i ≡ k)
  child_of zero hi path = absurd (not_nil _ _ _ (sym path ∙ root_at ns))
  child_of (suc i) hi path =
      let parts = same_from_push _ _ _ _ (sym (step ns ok (suc i) (omega arith) hi) ∙ path) in
      let before = ok.parents (suc i) (omega arith) hi in
      let parent = distinct ns ok (parent_at ns (suc i)) p (omega arith) hp parts.0 in (search (rules, arith), parts.1)

  -- a child of p has the key if a path begins with p's and the key
  pub on_way : (n i : ℕ) → i < n → i < length ns → (q : Path) → path_at (sums ns) i ≡ path_at (sums ns) p ++ k ∷ q →
      (a : ℕ) × (a < length (keys_at ns cs p)) × (key_in (keys_at ns cs p) a ≡ k)
  on_way zero i lt hi q e = absurd (omega arith)
  on_way (suc n) zero lt hi q e = absurd (not_nil _ _ _ (sym e ∙ root_at ns))
  on_way (suc n) (suc i) lt hi [] e =
      let child = child_of (suc i) hi e in
      let place = key_place ns ok p (suc i) child.0 in
      (_, place.0, place.1 ∙ child.1)
  on_way (suc n) (suc i) lt hi (x ∷ q) e =
      let up = ok.parents (suc i) (omega arith) hi in
      let l = last_of x q in
      let split = ap (λ (y : Path). path_at (sums ns) p ++ k ∷ y) l.2
      ∙ sym (append_assoc (path_at (sums ns) p) (k ∷ l.0) (l.1 ∷ [])) in
      on_way n (parent_at ns (suc i)) (omega arith) (omega arith) l.0
      (same_from_push _ _ _ _ (sym (step ns ok (suc i) (omega arith) hi) ∙ (e ∙ split))).0

  module _ (g : ℕ) (gap : IsKeyGap (keys_at ns cs p) k g) where
    -- an entry of 0 bytes at a new child
    pub now_entered : IsEntered (sums ns) (sums (grown ns p k)) p k 0 false (length ns)
    now_entered =
        let Q = path_at (sums ns) p ++ k ∷ [] in
        let all : sums (grown ns p k) ≡ sums ns ++ record { path = Q; bytes = 0; is_unique = false } ∷ [] =
        let some : 0 < length (map path_of (sums ns)) = omega (arith, length_sums ns, length-map (sums ns) path_of) in
        let above = get_or-map path_of (sums ns) p root_sum [] (omega (arith, length_sums ns)) in
        rw (grow_push [] ns (leaf p k), path_from-some (map path_of (sums ns)) p k some, above) refl in
        record {
          sums = all ∙ sym (put_push (length ns) Q 0 false (sums ns) (sym (length_sums ns)));
          not_root = ok.rooted;
          within = omega (arith, length_sums (grown ns p k), length_push ns (leaf p k));
          path = ap (λ (s : Listed). path_at s (length ns)) all
              ∙ ap path_of (get_or_push (sums ns) _ root_sum (length ns) (length_sums ns));
          sole = λ j h e. let child = child_of j (omega (arith, length_sums ns)) e in
              let place = key_place ns ok p j child.0 in
              absurd (gap_none (keys_at ns cs p) k g gap _ place.0 (place.1 ∙ child.1));
        }

-- ---- the bytes of a node's children are those one key below its path
-- two sums are equal if their terms are
same_sum : (f g : ℕ → ℕ) (xs : List ℕ) → ((i : ℕ) → i < length xs → f (get_or xs i 0) ≡ g (get_or xs i 0)) →
    sum_by f xs ≡ sum_by g xs
same_sum f g xs same = sym (sum-map f xs) ∙ (ap sum (map_same f g xs same) ∙ sum-map g xs)

-- The sums of an arena are a listing: the root comes first and has no bytes, and all paths differ.
pub listing : (ns : List Node) {cs : List (List ℕ)} → IsArena ns cs → IsListing (sums ns)
listing ns ok = record {
  rooted = omega (arith, length_sums ns, ok.rooted);
  root_path = root_at ns;
  root_bytes = (figures-grow [] ns 0).0 ∙ ok.root_empty;
  apart = λ i j hi hj. distinct ns ok i j (omega (arith, length_sums ns)) (omega (arith, length_sums ns));
}

abbrev Apart : List ℕ → Type 0
Apart xs = (a b : ℕ) → a < b → b < length xs → get_or xs a 0 ≢ get_or xs b 0

-- If the numbers differ, and only the items at them have sizes, these items have the whole sum.
sum_at_numbers : {X : Type 0} (f : X → ℕ) (d : X) → f d ≡ 0 → (ys : List X) (xs : List ℕ) →
    ((a : ℕ) → a < length xs → get_or xs a 0 < length ys) → Apart xs
    → ((i : ℕ) → i < length ys → ((a : ℕ) → a < length xs → get_or xs a 0 ≢ i) → f (get_or ys i d) ≡ 0) →
    sum_by (λ i. f (get_or ys i d)) xs ≡ sum_by f ys
sum_at_numbers f d none ys [] within apart others =
    omega (
      arith,
      sum_by-le f 0 ys (λ i e h.
          omega (arith, ap f (get_or_default ys i e d h), others i h (λ a lt. absurd (omega arith)))),
    )
sum_at_numbers f d none ys (x ∷ xs) within apart others =
    let hx : x < length ys = within 0 (omega arith) in
    let rest = set ys x d in
    let len = length-set ys x d in
    let other : (a : ℕ) → a < length xs → get_or xs a 0 ≢ x =
    λ a h e. apart 0 (suc a) (omega arith) (omega arith) (sym e) in
    let same = same_sum (λ i. f (get_or ys i d)) (λ i. f (get_or rest i d)) xs
    (λ a h. ap f (sym (get_or-set_other ys x (get_or xs a 0) d d (other a h)))) in
    let more = sum_at_numbers f d none rest xs
    (λ a h. let lt : get_or xs a 0 < length ys = within (suc a) (omega arith) in omega arith)
    (λ a b lt h. apart (suc a) (suc b) (omega arith) (omega arith))
    (λ i h absent. let old = λ (ne : i ≢ x). others i (omega arith) (missing x xs i ne absent) in
    grind (arith, none, get_or-set_same ys x d d hx, get_or-set_other ys x i d d, old)) in
    omega (arith, sum_by-cons (λ i. f (get_or ys i d)) x xs, sum_by-set f ys x d d hx, none, same, more)
  where
    missing : (x : ℕ) (xs : List ℕ) (i : ℕ) → i ≢ x → ((a : ℕ) → a < length xs → get_or xs a 0 ≢ i) → (a : ℕ) →
        a < length (x ∷ xs) → get_or (x ∷ xs) a 0 ≢ i
    missing x xs i ne absent zero h e = ne (sym e)
    missing x xs i ne absent (suc a) h e = absent a (omega arith) e

module _ (ns : List Node) {cs : List (List ℕ)} (ok : IsArena ns cs) (i : ℕ) (hi : i < length ns) where
  -- the bytes of a sum that is one key below node i
  abbrev part : Sum → ℕ
  part e = cond (is_one_below (path_at (sums ns) i) e.path) e.bytes 0

  -- a node other than the root has a part if its parent is i
  part_is : (j : ℕ) → 0 < j → j < length ns →
      part (sum_at (sums ns) j) ≡ cond (is_same_path (path_at (sums ns) i) (path_at (sums ns) (parent_at ns j)))
      (bytes_at ns j) 0
  part_is j pos h =
      let below = one_below_is (path_at (sums ns) i) (path_at (sums ns) (parent_at ns j)) (key_at ns j) in
      rw (step ns ok j pos h, (figures-grow [] ns j).0, below) refl

  part_child : (j : ℕ) → IsChild ns i j → part (sum_at (sums ns) j) ≡ bytes_at ns j
  part_child j c =
      let here = part_is j c.not_root c.in_range in
      grind (arith, here, c.parent, same_path-same (path_at (sums ns) i) (path_at (sums ns) i))

  part_other : (j : ℕ) → j < length ns → (IsChild ns i j → ⊥) → part (sum_at (sums ns) j) ≡ 0
  part_other zero h not = rw (root_at ns, not_below_root (path_at (sums ns) i)) refl
  part_other (suc j) h not =
      part_is (suc j) (omega arith) h
      ∙ cond-false _ _ _ (same_path-apart _ _ (λ s.
      let parent = distinct ns ok _ i (omega (arith, ok.parents (suc j) (omega arith) h)) hi (sym s) in
      not (search (rules, arith))))

  apart : Apart (children_at cs i)
  apart a b lt h e =
      let len = length-map (children_at cs i) (key_at ns) in
      let first = get_or-map (key_at ns) (children_at cs i) a 0 [] (omega arith) in
      let second = get_or-map (key_at ns) (children_at cs i) b 0 [] h in
      grind (arith, len, first, second, e, ok.rise i a b lt, tied_itself key_total (key_in (keys_at ns cs i) a))

  -- The bytes of the children of a node are those one key below its path.
  pub below_is : sum_by (bytes_at ns) (children_at cs i) ≡ below (map_of (sums ns)) (path_at (sums ns) i)
  below_is =
      let xs = children_at cs i in
      let child : (a : ℕ) → a < length xs → IsChild ns i (get_or xs a 0) = λ a h. ok.children i a 0 h in
      same_sum (bytes_at ns) (λ j. part (sum_at (sums ns) j)) xs (λ a h. sym (part_child _ (child a h)))
      ∙ (sum_at_numbers part root_sum (ap (λ (b : Bool). cond b 0 0) (not_below_root (path_at (sums ns) i)))
      (sums ns) xs (λ a h. omega (arith, length_sums ns, (child a h).in_range)) apart
      (λ j h absent. part_other j (omega (arith, length_sums ns))
      (λ c. let s = ok.listed i j c in absent s.0 s.1 (get_or_default xs s.0 0 j s.1 ∙ s.2)))
      ∙ below_listed (sums ns) (listing ns ok) (path_at (sums ns) i))

-- A path with one more key is not the root.
is_root-push : (p : Path) (k : Key) → is_root (p ++ k ∷ []) ≡ false
is_root-push [] k = refl
is_root-push (l ∷ p) k = refl

-- the root alone has the empty path
pub has_key : (ns : List Node) {cs : List (List ℕ)} → IsArena ns cs → (i : ℕ) → i < length ns →
    not (is_root (path_at (sums ns) i)) ≡ ltb 0 i
has_key ns ok zero h = ap (λ (p : Path). not (is_root p)) (root_at ns)
has_key ns ok (suc j) h = ap (λ (p : Path). not (is_root p)) (step ns ok (suc j) (omega arith) h)
    ∙ (ap not (is_root-push _ (key_at ns (suc j))) ∙ sym (lt-ltb 0 (suc j) (omega arith)))

-- ---- a tree's nodes and lists
-- A node that is read is the one at its number.
pub at_read : (items : List Node) (i : ℕ) (n : Node) → i < length items → n ≡ get_or items i n → at items i ≡ n
at_read items i n h read = get_or_default items i no_node n h ∙ sym read

-- a place of the sums is that of a node
pub in_nodes : (items : List Node) {v : Listed} (i : ℕ) → sums items ≡ v → i < length v → i < length items
in_nodes items i view h = let same = ap length view in omega (arith, length_sums items)

-- Nodes and lists that are an arena are a tree.
pub tree_of : (items : List Node) (lists : List Children) → IsArena items (map numbers lists) → IsTree items lists
tree_of items lists ok = let n = length-map lists numbers in let m = ok.lists in search (rules, arith, length_sums)

-- If a list is replaced by one with the same numbers, the nodes are still a tree.
pub same_lists : {items : List Node} {lists : List Children} → IsTree items lists → (i : ℕ) (c d : Children) →
    c ≡ get_or lists i c → numbers d ≡ numbers c → IsTree items (set lists i d)
same_lists {items} {lists} ok i c d read same = tree_of items (set lists i d)
    (rw (map-set_same numbers lists i d c (same ∙ ap numbers read)) ok.arena)

-- A node without its guesses.
abbrev plain : Node → Node
plain n = record n { last = 0; next = 0; follower = 0 }

-- If a node is replaced by one that differs by its guesses alone, the sums are unchanged.
pub same_view : (items : List Node) (i : ℕ) (n m : Node) → i < length items → n ≡ get_or items i n → plain m ≡ plain n
    → {v : Listed} → sums items ≡ v → sums (set items i m) ≡ v
same_view items i n m h read same view =
    let as_before : plain m ≡ plain (at items i) = same ∙ ap plain (sym (at_read items i n h read)) in
    grow_set [] items i m [] 0 false h (λ qs. ap (sum_from qs) as_before ∙ sym (raise_nothing _))
    ∙ (put_nothing i [] (sums items) (omega (arith, length_sums items)) ∙ view)

-- If a node is replaced by one with its key and its parent, and the root keeps its bytes, the nodes are still a tree.
pub written_tree : {items : List Node} {lists : List Children} → IsTree items lists → (i : ℕ) (m : Node) {n : Node} →
    i < length items → n ≡ get_or items i n → m.key ≡ n.key → m.parent ≡ n.parent → (0 ≡ i → m.bytes ≡ n.bytes) →
    IsTree (set items i m) lists
written_tree {items} ok i m h read key parent bytes =
    let is = sym (at_read items i _ h read) in
    tree_of (set items i m) _ (arena_set items ok.arena i m (key ∙ ap (λ (s : Node). s.key) is)
    (parent ∙ ap (λ (s : Node). s.parent) is) (λ e. bytes e ∙ ap (λ (s : Node). s.bytes) is))

-- a tree whose sums are v
module _ {items : List Node} {lists : List Children}
    (ok : IsTree items lists) {v : Listed} (view : sums items ≡ v) where
  -- The sums of a tree are a listing.
  pub listing_of : IsListing v
  listing_of = rw (← view) (listing items ok.arena)

  module _ (i : ℕ) (h : i < length v) where
    -- a place of the sums is that of a list
    pub in_lists : i < length lists
    in_lists = omega (arith, ok.lists, in_nodes items i view h)

    -- the numbers of a list that was read
    pub children_read : {c : Children} → c ≡ get_or lists i c → children_at (map numbers lists) i ≡ numbers c
    children_read {c} read = get_or-map numbers lists i c [] in_lists ∙ ap numbers (sym read)

    -- the list c, which was read
    module _ {c : Children} (read : c ≡ get_or lists i c) {ns : List Node} (same : ns ≡ items) where
      -- The keys in it rise.
      pub keys_rise : KeysRise (keys_of ns (numbers c))
      keys_rise = rw (same, ← children_read read) (ok.arena.rise i)

      -- Its numbers are those of nodes.
      pub listed_within : {xs : List ℕ} → xs ≡ numbers c → All (λ a. a < length ns) xs
      listed_within is = rw (same, is, ← children_read read) (All-weaker (IsChild items i)
          (λ (a : ℕ). a < length items) (λ a child. child.in_range) _ (ok.arena.children i))

      -- Its nodes have the bytes one key below the path of node i.
      pub listed_bytes : {xs : List ℕ} → xs ≡ numbers c → sum_by (bytes_at ns) xs ≡ below (map_of v) (path_at v i)
      listed_bytes is = rw (same, is, ← children_read read, ← view)
          (below_is items ok.arena i (in_nodes items i view h))

      -- A child that was found in it was entered.
      pub found_entered : (k : Key) (a : ℕ) → HasKey ns (numbers c) k a → IsEntered v v i k 0 false a
      found_entered k a found =
          let listed = rw (← children_read read) at found.0 in
          rw (← view) (was_entered items ok.arena i (in_nodes items i view h) k a
          (All-contains (IsChild items i) _ a (ok.arena.children i) listed) (rw same at found.1))

      module _ (k : Key) (g : ℕ) (gap : IsKeyGap (keys_of ns (numbers c)) k g) where
        gap_is : IsKeyGap (keys_at items (map numbers lists) i) k g
        gap_is = rw (same, ← children_read read) at gap

        -- With a new node, whose number is put into the list, the nodes are a tree.
        pub grown_tree : (d : Children) → numbers d ≡ insert (numbers c) g (length items) →
            IsTree (items ++ leaf i k ∷ []) (set lists i d ++ Empty ∷ [])
        grown_tree d is =
            let new = map_push numbers (set lists i d) Empty in
            tree_of _ _ (rw (new, map-set numbers lists i d, is, ← children_read read)
            (arena_grown items ok.arena i (in_nodes items i view h) k g gap_is))

        -- The new node is an entry of 0 bytes.
        pub grown_entered : (more : List Node) (n : ℕ) → more ≡ items ++ leaf i k ∷ [] → n ≡ length items →
            IsEntered v (sums more) i k 0 false n
        grown_entered more n is number =
            rw (← view, is, number) (now_entered items ok.arena i (in_nodes items i view h) k g gap_is)

    -- the node i, which was read as n
    module _ {n : Node} (read : n ≡ get_or items i n) where
      node_is : at items i ≡ n
      node_is = at_read items i n (in_nodes items i view h) read

      -- Its path is that of its parent with one more key.
      pub above_is : i ≢ 0 → IsAbove v i n.parent
      above_is some =
          let inside = in_nodes items i view h in
          rw (← view, ← node_is) (record {
            key = key_at items i;
            within = (let lt = ok.arena.parents i (omega arith) inside in omega (arith, length_sums items));
            path = step items ok.arena i (omega arith) inside;
          })

      -- what the sums say of it
      pub figures_read : let e = sum_at v i in
          (e.bytes ≡ n.bytes) × (e.is_unique ≡ n.is_unique) × (not (is_root e.path) ≡ ltb 0 i)
      figures_read = rw (← view) (
        (figures-grow [] items i).0 ∙ ap (λ (s : Node). s.bytes) node_is,
        (figures-grow [] items i).1 ∙ ap (λ (s : Node). s.is_unique) node_is,
        has_key items ok.arena i (in_nodes items i view h),
      )

      module _ (pos : 0 < i) where
        -- The bytes of a node are at most all bytes that were entered.
        pub bytes_fit : n.bytes ≤ bytes_entered (map_of v)
        bytes_fit =
            let found = sym (get-entries (map_of v) (path_at v i)) ∙ get_at v listing_of i pos h in
            omega (arith, found_fits (path_at v i) (entries (map_of v)) found, figures_read.0)

      -- the bytes are added at the node's place
      pub raised_view : (size : ℕ) (u b : Bool) → b ≡ (n.is_unique || u) →
          sums (set items i (record n { bytes = n.bytes + size; is_unique = b })) ≡ put i (path_at v i) size u v
      raised_view size u b mark =
          grow_set [] items i _ (path_at v i) size u (in_nodes items i view h) (λ qs. rw (mark, node_is) refl)
          ∙ ap (put i (path_at v i) size u) view

-- What a node that was read says of its sum, beside tests of numbers.
pub ruleset figures = (figures_read, nat_tests, common_steps)

-- What a list of children that is replaced leaves.
pub ruleset relisted = (get_or_default, in_lists, same_lists)

-- What a search among a node's children needs, and what a new child leaves.
pub ruleset searching = (get_or_default, keys_rise, grown_tree, same_lists, in_lists)

-- What a node that is compared is.
pub ruleset compared = (bytes_eq-Decides, length_sums, in_nodes, was_entered, child_of)

-- ---- keys
abbrev same_key : Key → Key → Bool
same_key k l = is_eq (key_cmp k l)

-- If the test for the same key holds, the keys are equal.
same_key_is : (k l : Key) → same_key k l ≡ true → k ≡ l
same_key_is k l h = key_same k l (is_eq-Equal (key_cmp k l) h)

-- whether one of the first j keys is l
abbrev among : List Key → ℕ → Key → Bool
among ks zero l = false
among ks (suc j) l = among ks j l || same_key l (key_in ks j)

-- The key at a place before j is among the first j keys.
among_at : (ks : List Key) (a j : ℕ) (l : Key) → a < j → key_in ks a ≡ l → among ks j l ≡ true
among_at ks a zero l h e = absurd (omega arith)
among_at ks a (suc j) l h e = grind (arith, among_at ks a j l, tied_itself key_total l)

-- If keys rise, one of the first j keys comes before the key at any place from j on.
among_before : (ks : List Key) → KeysRise ks → (i j : ℕ) (l : Key) → i < length ks → j ≤ i → among ks j l ≡ true →
    key_cmp l (key_in ks i) ≡ Less
among_before ks rise i zero l hi le h = absurd (true≢false (sym h))
among_before ks rise i (suc j) l hi le h =
    grind (arith, among_before ks rise i j l hi, same_key_is l (key_in ks j), rise j i)

-- ---- paths
-- the empty path, and those that begin with one of the first j keys
abbrev pub begun : List Key → ℕ → Path → Bool
begun ks j [] = true
begun ks j (l ∷ q) = among ks j l

-- a change of the test changes nothing if no path behind p is affected
behind_same : {X : Type 0} (p : Path) (t u : Path → Bool) (f : Path → Option X) →
    ((r : Path) → cond (t r) (f (p ++ r)) None ≡ cond (u r) (f (p ++ r)) None) → (q : Path)
    → cond (behind p t q) (f q) None ≡ cond (behind p u q) (f q) None
behind_same [] t u f same q = same q
behind_same (k ∷ p) t u f same [] = refl
behind_same (k ∷ p) t u f same (l ∷ q) = grind (arith, same_key_is l k, behind_same p t u (λ r. f (k ∷ r)) same q)

-- Before the first child, the walk has passed only the path p itself.
behind_own : (p : Path) (ks : List Key) (q : Path) → behind p (begun ks 0) q ≡ is_same_path q p
behind_own [] ks [] = refl
behind_own [] ks (l ∷ q) = refl
behind_own (k ∷ p) ks [] = refl
behind_own (k ∷ p) ks (l ∷ q) = grind (arith, behind_own p ks q, tied_then (key_cmp l k) (path_cmp q p))

-- one child more
behind_more : (p : Path) (ks : List Key) (j : ℕ) (q : Path) →
    behind p (begun ks (suc j)) q ≡ (behind p (begun ks j) q || behind (p ++ key_in ks j ∷ []) (λ r. true) q)
behind_more [] ks j [] = refl
behind_more [] ks j (l ∷ q) = grind (arith, nat_tests)
behind_more (k ∷ p) ks j [] = refl
behind_more (k ∷ p) ks j (l ∷ q) = grind (arith, nat_tests, behind_more p ks j q)

-- what was passed is before the next child
module _ (ks : List Key) (rise : KeysRise ks) (j : ℕ) (hj : j < length ks) where
  passed_before : (p a b : Path) → behind p (begun ks j) a ≡ true →
      behind (p ++ key_in ks j ∷ []) (λ r. true) b ≡ true → path_cmp a b ≡ Less
  passed_before [] a [] ha hb = absurd (true≢false (sym hb))
  passed_before [] [] (m ∷ b) ha hb = refl
  passed_before [] (l ∷ a) (m ∷ b) ha hb =
      grind (arith, ha, hb, same_key_is m (key_in ks j), among_before ks rise j j l hj)
  passed_before (k ∷ p) [] b ha hb = absurd (true≢false (sym ha))
  passed_before (k ∷ p) (l ∷ a) [] ha hb = absurd (true≢false (sym hb))
  passed_before (k ∷ p) (l ∷ a) (m ∷ b) ha hb =
      grind (arith, ha, hb, same_key_is l k, same_key_is m k, tied_itself key_total k, passed_before p a b)

-- ---- rows in the order of paths
-- If p comes before q, q does not come before p.
not_before : (p q : Path) → path_cmp p q ≡ Less → T (is_lt (path_cmp q p)) → ⊥
not_before p q less h = grind (arith, path_total.antisymm q p)

module _ {X : Type 0} where
  abbrev kept : (Path → Bool) → List (Path × X) → List (Path × X)
  kept t es = filter (λ e. t e.0) es

  found_kept : (t : Path → Bool) (q : Path) (es : List (Path × X)) →
      find path_cmp q (kept t es) ≡ cond (t q) (find path_cmp q es) None
  found_kept t q es = find-where_key path_cmp t q (λ x e. ap t (sym (path_antisymmetric q x e))) es

  -- the rows of a map that pass a test are those that are found
  kept_are : (t : Path → Bool) (m : FinMap path_cmp X) (rs : List (Path × X)) → T (is_sorted path_cmp rs) →
      ((q : Path) → cond (t q) (get m q) None ≡ find path_cmp q rs) → kept t (entries m) ≡ rs
  kept_are t m rs sorted found = same_entries path_cmp path_total path_antisymmetric (kept t (entries m)) rs
      (is_sorted-where_key path_cmp t (entries m) (entries_sorted m)) sorted
      (λ q. found_kept t q (entries m) ∙ (ap (λ (o : Option X). cond (t q) o None) (sym (get-entries m q)) ∙ found q))

  none_kept : (t u : Path → Bool) (p : Path) (es : List (Path × X)) →
      ((a b : Path) → t a ≡ true → u b ≡ true → path_cmp a b ≡ Less) → u p ≡ true → T (below_all path_cmp p es) →
      kept t es ≡ []
  none_kept t u p [] before h below = refl
  none_kept t u p (e ∷ es) before h below =
      let parts = and_yes (is_lt (path_cmp p e.0)) _ below in
      let other = λ (hit : t e.0 ≡ true). not_before e.0 p (before e.0 p hit h) parts.0 in
      grind (arith, other, none_kept t u p es before h parts.1)

  -- rows that pass one of two tests, if those that pass the first are before those that pass the second
  kept_both : (t u v : Path → Bool) → ((q : Path) → v q ≡ (t q || u q)) →
      ((a b : Path) → t a ≡ true → u b ≡ true → path_cmp a b ≡ Less) → (es : List (Path × X)) →
      T (is_sorted path_cmp es)
      → kept v es ≡ kept t es ++ kept u es
  kept_both t u v both before [] s = refl
  kept_both t u v both before (e ∷ es) s =
      let parts = and_yes (below_all path_cmp e.0 es) _ s in
      let rest = kept_both t u v both before es parts.1 in
      let none = λ (found : u e.0 ≡ true). none_kept t u e.0 es before found parts.0 in
      let once = λ (hit : t e.0 ≡ true) (h : u e.0 ≡ true). before e.0 e.0 hit h in
      grind (arith, both e.0, rest, none, once, tied_itself path_total e.0)

-- ---- the rows of a map
-- the rows behind p stay the same if the test passes other paths but no other of the map
rows_same : {X : Type 0} (m : FinMap path_cmp X) (p : Path) (t u : Path → Bool) →
    ((r : Path) → cond (t r) (get m (p ++ r)) None ≡ cond (u r) (get m (p ++ r)) None)
    → kept (behind p t) (entries m) ≡ kept (behind p u) (entries m)
rows_same m p t u same = kept_are (behind p t) m (kept (behind p u) (entries m))
    (is_sorted-where_key path_cmp (behind p u) (entries m) (entries_sorted m))
    (λ q. behind_same p t u (get m) same q ∙ (ap (λ (o : Option _). cond (behind p u q) o None) (get-entries m q)
    ∙ sym (found_kept (behind p u) q (entries m))))

-- before the first child there is the row of p itself
module _ {X : Type 0} (m : FinMap path_cmp X) (p : Path) (ks : List Key) where
  rows_none : get m p ≡ None → kept (behind p (begun ks 0)) (entries m) ≡ []
  rows_none w = kept_are (behind p (begun ks 0)) m [] tt (λ q. grind (arith, behind_own p ks q, same_path q p, w))

  rows_one : (x : X) → get m p ≡ Some x → kept (behind p (begun ks 0)) (entries m) ≡ (p, x) ∷ []
  rows_one x w = kept_are (behind p (begun ks 0)) m ((p, x) ∷ []) tt
      (λ q. grind (arith, behind_own p ks q, same_path q p, w))

-- ---- sizes
abbrev size_in : Listed → Path × Entered → ℕ
size_in s e = remaining (map_of s) e.0 e.1

-- the sizes that were found are within the bytes of all entries
rows_fit : (s : Listed) (p : Path) (t : Path → Bool) → sum_by (size_in s) (rows_behind s p t) ≤ bytes_entered (map_of s)
rows_fit s p t =
    let test : Path × Entered → Bool = λ e. behind p t e.0 in
    let both = sum_by-filter_both test _ (λ e. refl) (size_in s) (entries (map_of s)) in
    let each = sum_by-le-sum_by (size_in s) (λ (e : Path × Entered). e.1.bytes) (entries (map_of s))
    (λ e. cond_both e.1.is_unique e.1.bytes _ (λ (n : ℕ). n ≤ e.1.bytes) (λ _. omega arith) (λ _. omega arith)) in
    omega arith

-- the bytes one key below a path are within those of all entries
pub below_fits : (m : Sums) (p : Path) → below m p ≤ bytes_entered m
below_fits m p = sum_by-le-sum_by (λ e. cond (is_one_below p e.0) e.1.bytes 0) (λ (e : Path × Entered). e.1.bytes)
    (entries m)
    (λ e. cond_both (is_one_below p e.0) e.1.bytes 0 (λ (n : ℕ). n ≤ e.1.bytes) (λ _. omega arith) (λ _. omega arith))

-- A graph of a part has at most the bytes of all entries.
pub part_fits : {s : Listed} {p : Path} {t : Path → Bool} {w w' : List Warned} {g : Graph} → MakesPart s p t w w' g →
    total g ≤ bytes_entered (map_of s)
part_fits {s} {p} {t} part = omega (arith, part.total_is, rows_fit s p t)

abbrev pub warned_at : Listed → ℕ → List Warned
warned_at s i = warned (map_of s) (row (sum_at s i))

module _ (s : Listed) (ok : IsListing s) where
  -- the row of a place has its size and its warning
  own_row : (i : ℕ) → i < length s → (ks : List Key) → let rows = rows_behind s (path_at s i) (begun ks 0) in
      (sum_by (size_in s) rows ≡ size_at_place s i) × (flat_map (warned (map_of s)) rows ≡ warned_at s i)
  own_row zero h ks =
      let none = get_none s (path_at s 0) (λ i pos hi w. (let same = ok.apart i 0 hi h w in omega arith)) in
      let all = rows_none (map_of s) (path_at s 0) ks none in
      rw all (grind (arith, nat_tests, ok.root_bytes), rw ok.root_path refl)
  own_row (suc i) h ks =
      let e = row (sum_at s (suc i)) in
      rw (rows_one (map_of s) e.0 ks e.1 (get_at s ok (suc i) (omega arith) h))
      (omega (arith, sum_by-cons (size_in s) e []), append-nil (warned (map_of s) e))

  module _ (i : ℕ) (hi : i < length s) (ks : List Key) where
    -- The size of a place is at most all bytes that were entered.
    pub own_fits : size_at_place s i ≤ bytes_entered (map_of s)
    own_fits = omega (arith, rows_fit s (path_at s i) (begun ks 0), (own_row i hi ks).0)

    -- The own size of a place is the part of its graph before its first child.
    pub part_start : (w w' : List Warned) (g : Graph) → g ≡ add_self (size_at_place s i) default →
        w' ≡ w ++ warned_at s i → MakesPart s (path_at s i) (begun ks 0) w w' g
    part_start w w' g is written = record {
      warned_are = written ∙ ap (λ (l : List Warned). w ++ l) (sym (own_row i hi ks).1);
      graph_is = graph_is;
      total_is = ap total is ∙ omega
          (arith, total-add_at default ([], size_at_place s i), total-default, (own_row i hi ks).0);
    }
      where
        sizes : (q : Path) → get g q ≡ cond (is_same_path q []) (Some (size_at default [] + size_at_place s i))
            (get default q)
        sizes q = ap (λ (x : Graph). get x q) is ∙ get-insert path_total default []
            (size_at default [] + size_at_place s i) q

        graph_is : (q : Path) → get g q ≡ cond (begun ks 0 q) (get (graph (map_of s)) (path_at s i ++ q)) None
        graph_is [] = grind (arith, sizes [], get-default [], append-nil (path_at s i), graph_hit s ok i hi)
        graph_is (k ∷ r) = sizes (k ∷ r) ∙ get-default (k ∷ r)

    -- one child more
    module _ (rise : KeysRise ks) (j : ℕ) (hj : j < length ks) where
      abbrev p : Path
      p = path_at s i

      abbrev k : Key
      k = key_in ks j

      abbrev f : Path × Entered → List Warned
      f = warned (map_of s)

      abbrev before : List (Path × Entered)
      before = rows_behind s p (begun ks j)

      abbrev next : List (Path × Entered)
      next = rows_behind s (p ++ k ∷ []) (λ r. true)

      more : rows_behind s p (begun ks (suc j)) ≡ before ++ next
      more = kept_both _ _ _ (behind_more p ks j) (passed_before ks rise j hj p) (entries (map_of s))
          (entries_sorted (map_of s))

      -- A part of a graph with the graph of the next child is the part with that child.
      pub part_more : (c : ℕ) → path_at s c ≡ p ++ k ∷ [] → (w w' w'' : List Warned) (g h d : Graph) →
          MakesPart s p (begun ks j) w w' g → MakesGraph s c w' w'' d → h ≡ sum_of g (under k d)
          → MakesPart s p (begun ks (suc j)) w w'' h
      part_more c there w w' w'' g h d part made is = record {
        warned_are = grind (
          arith,
          child.warned_are,
          part.warned_are,
          more,
          flat_map-append f before next,
          append_assoc w (flat_map f before) (flat_map f next),
        );
        graph_is = λ q. ap (λ (x : Graph). get x q) is ∙ (get-sum_of g (under k d) q ∙ by q);
        total_is =
            let rows = ap (sum_by (size_in s)) more ∙ sum_by-append (size_in s) before next in
            ap total is ∙ omega
            (arith, total-sum_of g (under k d), total-under k d, part.total_is, child.total_is, rows);
      }
        where
          child : MakesPart s (p ++ k ∷ []) (λ r. true) w' w'' d
          child = rw (← there) made

          by : (q : Path) → sizes_together (get g q) (get (under k d) q)
              ≡ cond (begun ks (suc j) q) (get (graph (map_of s)) (p ++ q)) None
          by [] = grind (arith, part.graph_is [], get-under-root k d, append-nil p, graph_hit s ok i hi)
          by (l ∷ r) =
              let first = among_before ks rise j j l hj in let path = append_assoc p (k ∷ []) r in
              grind (arith, part.graph_is (l ∷ r), get-under k d l r, child.graph_is r, same_key_is l k, first, path)

-- the next key comes after those of the graph so far
pub comes_last : {s : Listed} {p : Path} {w w' : List Warned} {g : Graph} (ks : List Key) → KeysRise ks → (j : ℕ) →
    j < length ks → MakesPart s p (begun ks j) w w' g → ComesLast g (key_in ks j)
comes_last {s} {p} ks rise j hj part l q there =
    grind (arith, part.graph_is (l ∷ q), there, among_before ks rise j j l hj)

-- ---- at the nodes
module _ (ns : List Node) {cs : List (List ℕ)} (ok : IsArena ns cs) (i : ℕ) (hi : i < length ns) where
  -- after the last child, nothing is left
  passed_all : {X : Type 0} (f : Path → Option X) →
      ((q : Path) → ((a : ℕ) → a < length (sums ns) → path_at (sums ns) a ≢ q) → f q ≡ None) → (r : Path)
      → cond (begun (keys_at ns cs i) (length (keys_at ns cs i)) r) (f (path_at (sums ns) i ++ r)) None
      ≡ f (path_at (sums ns) i ++ r)
  passed_all f none [] = refl
  passed_all f none (k ∷ r) =
      let ks = keys_at ns cs i in
      let missing = λ (e : among ks (length ks) k ≡ false). none _ (λ a h path.
      let way = on_way ns ok i hi k (suc a) a (omega arith) (omega (arith, length_sums ns)) r path in
      true≢false (sym (among_at ks way.0 _ k way.1 way.2) ∙ e)) in
      grind (arith, missing)

  part_all : (w w' : List Warned) (g : Graph) →
      MakesPart (sums ns) (path_at (sums ns) i) (begun (keys_at ns cs i) (length (keys_at ns cs i))) w w' g →
      MakesGraph (sums ns) i w w' g
  part_all w w' g part =
      let m = map_of (sums ns) in
      let same = rows_same m (path_at (sums ns) i) (begun (keys_at ns cs i) (length (keys_at ns cs i))) (λ r. true)
      (passed_all (get m) (λ q other. get_none (sums ns) q (λ a pos. other a))) in
      record {
        warned_are = part.warned_are ∙ ap (λ (rs : List (Path × Entered)). w ++ flat_map (warned m) rs) same;
        graph_is = λ q. part.graph_is q ∙ passed_all (get (graph m)) (graph_none (sums ns) (listing ns ok)) q;
        total_is = part.total_is ∙ ap (sum_by (size_in (sums ns))) same;
      }

module _ {items : List Node} {lists : List Children} (ok : IsTree items lists) {v : Listed}
    (view : sums items ≡ v) (p : ℕ) where
  abbrev keys : List Key
  keys = keys_at items (map numbers lists) p

  -- a child of a node, in the sums, and its key
  pub child_read : (xs : List ℕ) → children_at (map numbers lists) p ≡ xs → (j : ℕ) → j < length xs
      → let i = get_or xs j 0 in (p < i) × (i < length v)
      × (path_at v i ≡ path_at v p ++ key_in keys j ∷ [])
      × ((d : Node) → (let m = get_or items i d in m.key ≡ key_in keys j))
  child_read xs is j hj =
      let cs = map numbers lists in
      let inside : j < length (children_at cs p) = rw is hj in
      let c = ok.arena.children p j 0 inside in
      let lt = ok.arena.parents _ c.not_root c.in_range in
      let key = get_or-map (key_at items) (children_at cs p) j 0 [] inside in
      let path = step items ok.arena _ c.not_root c.in_range
      ∙ (λ k. path_at (sums items) (c.parent k) ++ sym key k ∷ []) in
      rw (← is, ← view) (
        omega (arith, c.parent),
        omega (arith, length_sums items, c.in_range),
        path,
        λ d. ap (λ (m : Node). m.key) (get_or_default items _ d no_node c.in_range) ∙ sym key,
      )

  -- The part of a graph with all children is the graph.
  pub made_all : p < length v → (w w' : List Warned) (g : Graph) (j : ℕ) → j ≡ length keys →
      MakesPart v (path_at v p) (begun keys j) w w' g → MakesGraph v p w w' g
  made_all hp w w' g j whole part =
      let part' = rw (← view, whole) at part in
      rw (← view) (part_all items ok.arena p (in_nodes items p view hp) w w' g part')

-- ---- warnings
-- the warning of place i, if it has one
abbrev pub own_warning : Listed → ℕ → List Warned
own_warning s i = let e = sum_at s i in
    record { path = e.path; self_size = e.bytes; children_size = below (map_of s) e.path } ∷ []

-- If place i has no warning, its warnings add nothing to a list.
pub none_warned : (s : Listed) (i : ℕ) (w : List Warned) → false ≡ is_short s i → w ≡ w ++ warned_at s i
none_warned s i w e = sym (append-nil w) ∙ ap (λ (b : Bool). w ++ cond b (own_warning s i) []) e

-- A node without children has the graph of its own size, and no warning.
pub leaf_made : {items : List Node} {lists : List Children} (ok : IsTree items lists) {v : Listed} →
    sums items ≡ v → (p : ℕ) → p < length v → {c : Children} → c ≡ get_or lists p c → numbers c ≡ [] →
    {n : Node} → n ≡ get_or items p n → (g : Graph) → g ≡ add_self n.bytes default → (w : List Warned) →
    MakesGraph v p w w g
leaf_made {items} {lists} ok {v} view p hp {c} read empty {n} at g is w =
    let figures = figures_read ok view p hp at in
    let nothing : below (map_of v) (path_at v p) ≡ 0 = sym (listed_bytes ok view p hp read refl (sym empty)) in
    let size : n.bytes ≡ size_at_place v p = grind (arith, common_steps, figures, nothing) in
    let short : false ≡ is_short v p = grind (arith, nat_tests, common_steps, nothing) in
    let none = ap length (children_read ok view p hp read ∙ empty) in
    made_all ok view p hp w w g 0 (omega (arith, none, length-map (children_at (map numbers lists) p) (key_at items)))
    (part_start v (listing_of ok view) p hp (keys_at items (map numbers lists) p) w w g
    (is ∙ ap (λ (m : ℕ). add_self m default) size) (none_warned v p w short))

-- What the walk of `build_graph` needs of a node's children.
pub ruleset walking = (
  in_nodes,
  children_read,
  listing_of,
  listed_within,
  listed_bytes,
  child_read,
  own_fits,
  total-default,
)
