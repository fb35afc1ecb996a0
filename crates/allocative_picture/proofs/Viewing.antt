-- Views: their totals, the bytes at their paths, and the graphs that are added on the way.
use Rattle.std.proofs.Common.{◌≡◌, ℕ, zero, suc, ◌+◌, ◌-◌, ◌&&◌, ◌||◌, inl, inr, Bool, true, false, not, cond, List, [], ◌∷◌, ◌++◌, reverse}
use Rattle.std.proofs.Common.{length, sum_by, codes, refl, sym, ap, ◌∙◌, arith, Equal, nat_lt, nat_eq, unwrap_or, Bor, Vec, Global}
use Rattle.std.proofs.Common.{get_or, Option, Some, None}
use Rattle.std.specs.Cmp.{tied_then, both_ways}
use Rattle.std.specs.Cmp.Lexicographic.{pointwise, texts_ties}
use Rattle.std.specs.List.{starts_with}
use Rattle.std.proofs.lemmas.Bool.Decides.{nat_tests}
use Rattle.std.proofs.lemmas.List.{reverse-append, reverse-reverse}
use Rattle.std.proofs.lemmas.List.Sorted.{IsPermutation-to_front}
use Rattle.allocative_picture.proofs.Common.{Path, Sizes, Key, Graph, Child, default, size_at, total, total_of, sum_of, under}
use Rattle.allocative_picture.proofs.Common.{entries, entries_sorted, get-entries, find, path_cmp, key_cmp}
use Rattle.allocative_picture.proofs.Common.{is_same_path, same_path, texts, begins, list_any, ends_in}
use Rattle.allocative_picture.proofs.Common.{graph_of_path, total-path, size_at-path, sum_by-cons, fold-append, map-append}
use Rattle.allocative_picture.proofs.Common.{sum_of_all, total_of-cons, node, AreChildren}
use Rattle.allocative_graph.proofs.Basics.{and-true, same_path_itself}
use Rattle.allocative_graph.proofs.Children.{first_below, others, one_child, merged_same, merged_second, node_of_one}
use Rattle.allocative_graph.proofs.Graphs.{total-sum_of, size_at-sum_of, size_at-default, total-default, total-all, total-under}
use Rattle.allocative_graph.proofs.Graphs.{sum_of-commutes, sum_of-associates, sum_of-default, added_up, added_up-onto}
use Rattle.allocative_graph.proofs.Graphs.{added_up-permuted, total-added_up}
use Rattle.allocative_graph.proofs.Nodes.{tree-path, node_leaf, added_node, added_sum}
use Rattle.allocative_picture.proofs.Walking.{at_found, found_sum, node_total, sum_if, sum_split}
use Rattle.allocative_graph.specs.Graph.{IsTree}
use Rattle.allocative_picture.specs.Views.{bytes_alone, moved_onto, last_of, by_last_key, bytes_ending_in, reversed, chosen_onto, is_within}
use Rattle.allocative_picture.specs.Views.{only, without, bytes_within, paths_of, joined, GuidesChild, InStep, IsOutline}

-- ---- paths that move
-- A number that counts only if it is not 0 counts.
counts : (b : Bool) (n : ℕ) → cond (nat_lt 0 n && b) n 0 ≡ cond b n 0
counts b n = grind (arith, nat_tests)

module _ (keep : Path × ℕ → Bool) (f : Path → Path) where
  -- The graph with one entry more.
  abbrev one_moved : Graph → Path × ℕ → Graph
  one_moved h e = cond (keep e) (sum_of h (graph_of_path (f e.0) e.1)) h

  -- The bytes that e adds at the path p.
  abbrev added_at : Path → Path × ℕ → ℕ
  added_at p e = cond (keep e) (cond (is_same_path p (f e.0)) e.1 0) 0

  -- Entries are added one list after the other.
  pub moved-append : (h : Graph) (es fs : Sizes) →
      moved_onto keep f h (es ++ fs) ≡ moved_onto keep f (moved_onto keep f h es) fs
  moved-append h es fs = fold-append one_moved h es fs

  total-moved : (h : Graph) (es : Sizes) →
      total (moved_onto keep f h es) ≡ total h + sum_by (λ e. cond (keep e) e.1 0) es
  total-moved h [] = omega arith
  total-moved h (e ∷ es) =
      let one : total (one_moved h e) ≡ total h + cond (keep e) e.1 0 =
      grind (arith, total-sum_of h (graph_of_path (f e.0) e.1), total-path (f e.0) e.1) in
      omega (arith, one, total-moved (one_moved h e) es, sum_by-cons (λ (x : Path × ℕ). cond (keep x) x.1 0) e es)

  size_at-moved : (h : Graph) (es : Sizes) (p : Path) →
      size_at (moved_onto keep f h es) p ≡ size_at h p + sum_by (added_at p) es
  size_at-moved h [] p = omega arith
  size_at-moved h (e ∷ es) p =
      let one : size_at (one_moved h e) p ≡ size_at h p + added_at p e =
      grind (arith, size_at-sum_of h (graph_of_path (f e.0) e.1) p, size_at-path (f e.0) e.1 p) in
      omega (arith, one, size_at-moved (one_moved h e) es p, sum_by-cons (added_at p) e es)

  -- So it is with all entries of a graph.
  pub total-view : (g : Graph) →
      total (moved_onto keep f default (entries g)) ≡ sum_by (λ e. cond (keep e) e.1 0) (entries g)
  total-view g = omega (arith, total-moved default (entries g), total-default)

  size_at-view : (g : Graph) (p : Path) →
      size_at (moved_onto keep f default (entries g)) p ≡ sum_by (added_at p) (entries g)
  size_at-view g p = omega (arith, size_at-moved default (entries g) p, size_at-default p)

-- The entries of one path have its bytes.
bytes_at : (g : Graph) (q : Path) → sum_by (λ e. cond (is_same_path q e.0) e.1 0) (entries g) ≡ size_at g q
bytes_at g q = found_sum (λ n. n) q (entries g) (entries_sorted g) ∙ own (find path_cmp q (entries g))
    ∙ ap (λ o. unwrap_or o 0) (sym (get-entries g q))
  where
    own : (o : Option ℕ) → at_found (λ n. n) o ≡ unwrap_or o 0
    own None = refl
    own (Some n) = refl

-- ---- by last key
-- The last key of a path is alone the path of a key if the path ends in it.
same-last : (k : Key) (p : Path) → is_same_path (k ∷ []) (last_of p) ≡ ends_in k p
same-last k [] = refl
same-last k (l ∷ []) = sym (tied_then (key_cmp k l) Equal) ∙ and-true _
same-last k (l ∷ m ∷ p) = let e : length (l ∷ m ∷ p) - 1 ≡ suc (length (m ∷ p) - 1) = omega arith in
    rw e (same-last k (m ∷ p))

-- By last key, a key has the bytes of all paths that end in it.
pub size_at-by_last_key : (g : Graph) (k : Key) → size_at (by_last_key g) (k ∷ []) ≡ bytes_ending_in k g
size_at-by_last_key g k = size_at-view (λ e. true) last_of g (k ∷ [])
    ∙ (λ i. sum_by (λ e. cond (same-last k e.0 i) e.1 0) (entries g))

-- The bytes by last key are all bytes.
pub total-by_last_key : (g : Graph) → total (by_last_key g) ≡ total g
total-by_last_key g = total-view (λ e. true) last_of g

-- ---- reversed paths
-- A path is the reverse of another if that is its reverse.
same-reverse : (p q : Path) → is_same_path p (reverse q) ≡ is_same_path (reverse p) q
same-reverse p q = both_ways _ _
    (λ e. ap (λ r. is_same_path r q) (ap reverse (same_path p (reverse q) e) ∙ reverse-reverse q) ∙ same_path_itself q)
    (λ e. ap (λ r. is_same_path p (reverse r)) (sym (same_path (reverse p) q e))
    ∙ ap (is_same_path p) (reverse-reverse p) ∙ same_path_itself p)

-- At each path the reversed graph has the bytes of the reversed path.
pub size_at-reversed : (g : Graph) (p : Path) → size_at (reversed g) p ≡ size_at g (reverse p)
size_at-reversed g p = size_at-view (λ e. nat_lt 0 e.1) reverse g p
    ∙ (λ i. sum_by (λ e. each e i) (entries g)) ∙ bytes_at g (reverse p)
  where
    each : (e : Path × ℕ) → cond (nat_lt 0 e.1) (cond (is_same_path p (reverse e.0)) e.1 0) 0
        ≡ cond (is_same_path (reverse p) e.0) e.1 0
    each e = grind (arith, nat_tests, same-reverse p e.0)

-- Reversing keeps the total.
pub total-reversed : (g : Graph) → total (reversed g) ≡ total g
total-reversed g = total-view (λ e. nat_lt 0 e.1) reverse g ∙ (λ i. sum_by (λ e. each e.1 i) (entries g))
  where
    each : (n : ℕ) → cond (nat_lt 0 n) n 0 ≡ n
    each n = grind (arith, nat_tests)

-- Reversing twice gives each path its bytes back.
pub reversed_twice : (g : Graph) (p : Path) → size_at (reversed (reversed g)) p ≡ size_at g p
reversed_twice g p = size_at-reversed (reversed g) p
    ∙ size_at-reversed g (reverse p) ∙ ap (size_at g) (reverse-reverse p)

-- ---- parts
module _ (test : Path → Bool) (g : Graph) where
  -- A part has the bytes of the paths that pass the test.
  total-part : total (chosen_onto test default (entries g)) ≡ sum_by (λ e. cond (test e.0) e.1 0) (entries g)
  total-part = total-view (λ e. nat_lt 0 e.1 && test e.0) (λ p. p) g
      ∙ (λ i. sum_by (λ e. counts (test e.0) e.1 i) (entries g))

  -- The paths that pass the test keep their bytes, and others have none.
  size_at-part : (p : Path) → size_at (chosen_onto test default (entries g)) p ≡ cond (test p) (size_at g p) 0
  size_at-part p = size_at-view (λ e. nat_lt 0 e.1 && test e.0) (λ p. p) g p
      ∙ (λ i. sum_by (λ e. each e i) (entries g))
      ∙ sum_if (test p) (λ e. cond (is_same_path p e.0) e.1 0) (entries g) ∙ ap (λ n. cond (test p) n 0) (bytes_at g p)
    where
      each : (e : Path × ℕ) → cond (nat_lt 0 e.1 && test e.0) (cond (is_same_path p e.0) e.1 0) 0
          ≡ cond (test p) (cond (is_same_path p e.0) e.1 0) 0
      each e = let same : is_same_path p e.0 ≡ true → test e.0 ≡ test p = λ h. ap test (sym (same_path p e.0 h)) in
          grind (arith, nat_tests, same)

-- What passes a test and what does not are all.
halves : (test : Path → Bool) (es : Sizes) →
    sum_by (λ e. cond (not (test e.0)) e.1 0) es + sum_by (λ e. cond (test e.0) e.1 0) es ≡ sum_by (λ e. e.1) es
halves test es = sym (sum_split (λ (e : Path × ℕ). e.1)
    (λ e. cond (not (test e.0)) e.1 0) (λ e. cond (test e.0) e.1 0) es
    (λ i d w. each (test (get_or es i d).0) (get_or es i d).1))
  where
    each : (b : Bool) (n : ℕ) → n ≡ cond (not b) n 0 + cond b n 0
    each true n = omega arith
    each false n = omega arith

-- The part within some paths has their bytes, and that without them has all others.
pub total-only : (ps : List Path) (g : Graph) → total (only ps g) ≡ bytes_within ps g
total-only ps g = total-part (is_within ps) g

pub total-without : (ps : List Path) (g : Graph) → total (without ps g) + bytes_within ps g ≡ total g
total-without ps g = omega (arith, total-part (λ p. not (is_within ps p)) g, halves (is_within ps) (entries g))

pub size_at-only : (ps : List Path) (g : Graph) (p : Path) →
    size_at (only ps g) p ≡ cond (is_within ps p) (size_at g p) 0
size_at-only ps g p = size_at-part (is_within ps) g p

pub size_at-without : (ps : List Path) (g : Graph) (p : Path) →
    size_at (without ps g) p ≡ cond (is_within ps p) 0 (size_at g p)
size_at-without ps g p = let e = size_at-part (λ q. not (is_within ps q)) g p in grind (arith, e)

-- Whether two texts are one.
abbrev pub is_same_text : Bor (List ℕ) → Bor (List ℕ) → Bool
is_same_text k l = pointwise nat_eq k.now l.now

-- A path of texts begins with another one if its keys do.
begins-starts : (p q : List (Bor (List ℕ))) → starts_with is_same_text q p ≡ begins (texts p) (texts q)
begins-starts [] q = refl
begins-starts (k ∷ p) [] = refl
begins-starts (k ∷ p) (l ∷ q) = λ i. texts_ties k.now l.now i && begins-starts p q i

-- A path is within some paths if it starts with one of them.
pub within_starts : (ps : List (Vec (Bor (List ℕ)) Global)) (q : List (Bor (List ℕ))) →
    list_any (λ p. starts_with is_same_text q p.items) ps ≡ is_within (paths_of ps) (texts q)
within_starts [] q = refl
within_starts (p ∷ ps) q = λ i. begins-starts p.items q i || within_starts ps q i

-- ---- the steps of the code
-- Adding a tree to the empty graph gives the tree.
pub onto_default : (g : Graph) → IsTree g → sum_of default g ≡ g
onto_default g t = sum_of-commutes default g ∙ sum_of-default g t

-- The keys of texts in reverse are the texts in reverse.
texts-reverse : (ks : List (Bor (List ℕ))) → texts (reverse ks) ≡ reverse (texts ks)
texts-reverse [] = refl
texts-reverse (k ∷ ks) =
    ap texts (reverse-append (k ∷ []) ks) ∙ map-append (λ (x : Bor (List ℕ)). x.now) (reverse ks) (k ∷ [])
    ∙ ap (λ p. p ++ k.now ∷ []) (texts-reverse ks) ∙ sym (reverse-append (k.now ∷ []) (texts ks))

-- Bytes at a reversed path alone.
pub reversed_alone : (ks : List (Bor (List ℕ))) (n : ℕ) →
    sum_of default (graph_of_path (texts (reverse ks)) n) ≡ graph_of_path (reverse (texts ks)) n
reversed_alone ks n = onto_default _ (tree-path (texts (reverse ks)) n) ∙ ap (λ p. graph_of_path p n) (texts-reverse ks)

-- The empty graph has no bytes.
pub ruleset empty = (total-default)

-- A graph may be added before some children or to their sum.
pub before_waiting : (g h : Graph) (cs : List Child) → sum_of_all (sum_of g h) cs ≡ sum_of (sum_of_all g cs) h
before_waiting g h cs = sym (sum_of-commutes (sum_of_all g cs) h
    ∙ added_up-onto (λ (c : Child). under c.key c.graph) h g cs
    ∙ ap (λ (x : Graph). sum_of_all x cs) (sum_of-commutes h g))

-- One child more is added.
pub all_push : (g : Graph) (ds : List Child) (d : Child) →
    sum_of (sum_of_all g ds) (under d.key d.graph) ≡ sum_of_all g (ds ++ d ∷ [])
all_push g ds d = sym (fold-append (λ (h : Graph) (c : Child). sum_of h (under c.key c.graph)) g ds (d ∷ []))

-- The graphs of some children add up in any order, and two may be added first.
pub joined_turned : (a b c : Child) (rest : List Child) → c.graph ≡ sum_of a.graph b.graph →
    joined (rest ++ c ∷ []) ≡ joined (a ∷ b ∷ rest)
joined_turned a b c rest e =
    sym (added_up-permuted (λ (x : Child). x.graph) default (rest ++ c ∷ []) (c ∷ rest) (IsPermutation-to_front rest c))
    ∙ ap (λ (g : Graph). added_up (λ (x : Child). x.graph) g rest)
    (ap (sum_of default) e ∙ sym (sum_of-associates default a.graph b.graph))

-- A graph is the sum of the bytes of its root and of its children.
pub sum_of_children : (n : ℕ) (cs : List Child) → AreChildren cs → sum_of_all (bytes_alone n) cs ≡ node n cs
sum_of_children n [] h = sym (node_leaf n)
sum_of_children n (c ∷ cs) h =
    let none : n + 0 ≡ n = omega arith in
    let rest = others c cs h in
    let one = one_child c h.trees.0 in
    before_waiting (bytes_alone n) (under c.key c.graph) cs
    ∙ (λ i. sum_of (sum_of_children n cs rest i) (sym (node_of_one c) i))
    ∙ sym (added_sum (added_node true n 0 cs (c ∷ []) (c ∷ cs) rest one
    (merged_second true c cs [] cs (merged_same cs rest) (first_below c cs h) one)) refl)
    ∙ ap (λ m. node m (c ∷ cs)) none

-- ---- the outline
-- The graphs of some children have the totals of the children.
total-joined : (cs : List Child) → total (joined cs) ≡ total_of cs
total-joined cs = omega (arith, total-added_up (λ (c : Child). c.graph) default cs, total-default)

-- Children in step have the same total if each two with one key have.
total-step : (R : Child → Graph → Type 0) → ((c : Child) (o : Graph) → R c o → total o ≡ total c.graph) →
    (cs ds : List Child) → InStep R cs ds → total_of ds ≡ total_of cs
total-step R same [] [] h = refl
total-step R same [] (d ∷ ds) h = absurd h
total-step R same (c ∷ cs) [] h = absurd h
total-step R same (c ∷ cs) (d ∷ ds) ((key, of), rest) =
    omega (arith, total_of-cons c cs, total_of-cons d ds, same c d.graph of, total-step R same cs ds rest)

-- An outline keeps the total.
pub total-outline : (l n : ℕ) (u g h : Graph) → IsOutline l n u g h → total h ≡ total g
unfolding IsOutline
total-outline zero n u g h e = ap total e ∙ total-path [] (total g)
total-outline (suc l) n u g h (us, cs, a, b, inl (more, o, sub, e)) =
    omega (
      arith,
      ap total e,
      total-sum_of (bytes_alone (size_at g [])) (under (codes "{}") o),
      total-path [] (size_at g []),
      total-under (codes "{}") o,
      total-outline l n (joined us) (joined cs) o sub,
      total-joined cs,
      node_total g cs b.whole b.children,
    )
total-outline (suc l) n u g h (us, cs, a, b, inr (few, ds, step, e)) =
    let R : Child → Graph → Type 0 = λ c o. (x : Graph) × GuidesChild u c x × IsOutline l n x c.graph o in
    omega (
      arith,
      ap total e,
      total-all (bytes_alone (size_at g [])) ds,
      total-path [] (size_at g []),
      total-step R (λ c o of. total-outline l n of.0 c.graph o of.2) cs ds step,
      node_total g cs b.whole b.children,
    )
