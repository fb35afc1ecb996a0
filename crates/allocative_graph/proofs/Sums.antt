-- What a bag adds to the sums, path by path, whatever its order, and as plain lists; the bytes one key below a path,
-- and which paths have entries.
use Rattle.std.proofs.Common.{◌≡◌, ℕ, ◌+◌, Bool, false, cond, [], ◌∷◌, Option, Some, None, refl, ap, sym, ◌∙◌, sum_by}
use Rattle.std.proofs.Common.{arith, nat_lt, IsTrue, true, T, List, subst, unwrap_or, map, Ordering, Less, ◌++◌}
use Rattle.std.proofs.Common.{flat_map, ◌||◌, true≢false, ◌-◌, fold, not, ◌&&◌}
use Rattle.allocative_graph.proofs.Common.{get, get-insert, same_map, Path, path_cmp, is_same_path, Entry, Bag, Node}
use Rattle.allocative_graph.proofs.Common.{Sums, bytes_in, is_unique_in, is_entered_in, together, node_of, add, add_all}
use Rattle.allocative_graph.proofs.Common.{sums_of, sum_by-cons, list_any, option_map, eq_by_cmp, is_eq, is_lt}
use Rattle.allocative_graph.proofs.Common.{IsAntisymmetric, get-entries, insert, entries-insert, entries}
use Rattle.allocative_graph.proofs.Common.{entries_sorted, put, find, is_sorted, below_all, is_one_below, below, both}
use Rattle.allocative_graph.proofs.Common.{first, second, flat_map-append, list_any-append, tied_then, Key, key_cmp}
use Rattle.allocative_graph.proofs.Common.{Identity, Forest, Empty, Inline, Unique, First, Again, AsInline, AsUnique}
use Rattle.allocative_graph.proofs.Common.{AsShared, own_behind, contents, content_entries, all, IsTotalOrder, Mark}
use Rattle.allocative_graph.proofs.Common.{nil_from_length, keys, from_entries, len-entries, graph, sizes, sum_of, text}
use Rattle.allocative_graph.proofs.Common.{text_of_entries, is_root}
use Rattle.std.proofs.lemmas.Bool.Decides.{nat_tests}
use Rattle.std.specs.FinMap.{empty, get-empty, FinMap, len-empty}
use Rattle.allocative_graph.proofs.Basics.{path_total, path_antisymmetric, same_path, is_eq-Equal, same_path_itself}
pub use Rattle.allocative_graph.specs.Sums.{below_in}
use Rattle.allocative_graph.specs.{Sums.is_unique_mark, Sums.bytes_entered, Graph.warning_line}

-- ---- the maps of a bag as plain lists, on which texts compute
abbrev pub nodes_add : List (Path × Node) → Entry → List (Path × Node)
nodes_add es e = put path_cmp e.path (together (find path_cmp e.path es) (node_of e)) es

abbrev pub nodes_add_all : List (Path × Node) → Bag → List (Path × Node)
nodes_add_all es b = fold nodes_add es b

-- Adding a bag to sums gives the entries that `nodes_add_all` computes from theirs and the bag.
entries-add_all : (s : Sums) (b : Bag) → entries (add_all s b) ≡ nodes_add_all (entries s) b
entries-add_all s [] = refl
entries-add_all s (e ∷ b) = entries-add_all (add s e) b
    ∙ ap (λ es. nodes_add_all es b) (entries-insert path_total s e.path _ ∙ ap
    (λ o. put path_cmp e.path (together o (node_of e)) (entries s)) (get-entries s e.path))

abbrev pub put_all : {X : Type 0} → List (Path × X) → List (Path × X)
put_all [] = []
put_all (e ∷ es) = put path_cmp e.0 e.1 (put_all es)

-- An empty map has no entries, whatever its order of keys and its type of values.
pub no_entries : {K : Type 0} (R : K → K → Ordering) (X : Type 0) → entries (empty {X = X} {R = R}) ≡ []
no_entries R X = nil_from_length _ (sym (len-entries (empty {X = X} {R = R})) ∙ len-empty R X)

-- An empty map from paths has no entries.
pub entries-empty : {X : Type 0} → entries (empty {X = X} {R = path_cmp}) ≡ []
entries-empty {X} = no_entries path_cmp X

-- The entries of a map made from a list are those that `put_all` computes from the list.
pub entries-from_entries : {X : Type 0} (es : List (Path × X)) → entries (from_entries {R = path_cmp} es) ≡ put_all es
entries-from_entries [] = entries-empty
entries-from_entries (e ∷ es) = entries-insert path_total _ e.0 e.1
    ∙ ap (put path_cmp e.0 e.1) (entries-from_entries es)

-- ---- the texts
abbrev pub nodes_of : Bag → List (Path × Node)
nodes_of b = nodes_add_all [] b

-- The entries of the sums of a bag are those that `nodes_of` computes from the bag.
pub entries-sums_of : (b : Bag) → entries (sums_of b) ≡ nodes_of b
entries-sums_of b = entries-add_all empty b ∙ ap (λ es. nodes_add_all es b) entries-empty

abbrev pub below_list : List (Path × Node) → Path → ℕ
below_list es p = sum_by (λ e. cond (is_one_below p e.0) e.1.bytes 0) es

-- The size of each path, computed from the nodes of a bag.
abbrev pub sizes_list : List (Path × Node) → List (Path × ℕ)
sizes_list es = put_all (([], 0) ∷ map (λ e. (e.0, cond e.1.is_unique e.1.bytes (e.1.bytes - below_list es e.0))) es)

-- The entries of a bag's graph are those that `sizes_list` computes from the nodes of the bag.
pub entries-graph : (b : Bag) → entries (graph (sums_of b)) ≡ sizes_list (nodes_of b)
entries-graph b = entries-from_entries (sizes (sums_of b)) ∙ ap sizes_list (entries-sums_of b)

-- The warnings, computed from the nodes of a bag.
abbrev pub warnings_list : List (Path × Node) → List ℕ
warnings_list es = flat_map (λ e. cond (not (is_root e.0) && not e.1.is_unique && nat_lt e.1.bytes (below_list es e.0))
    (warning_line e.0 e.1.bytes (below_list es e.0)) []) es

abbrev pub added_list : List (Path × ℕ) → List (Path × ℕ) → List (Path × ℕ)
added_list es fs = put_all (map (λ p. (p, unwrap_or (find path_cmp p es) 0 + unwrap_or (find path_cmp p fs) 0))
    (map (λ e. e.0) es ++ map (λ e. e.0) fs))

-- The text of the sum of two bags' graphs is the text of the list that `added_list` computes.
pub text_added : (b c : Bag) → text (sum_of (graph (sums_of b)) (graph (sums_of c)))
    ≡ text_of_entries (added_list (sizes_list (nodes_of b)) (sizes_list (nodes_of c)))
text_added b c =
    let g = graph (sums_of b) in
    let h = graph (sums_of c) in
    ap text_of_entries (entries-from_entries _ ∙ (λ i. put_all (map
    (λ p. (p, unwrap_or (get-entries g p i) 0 + unwrap_or (get-entries h p i) 0)) (keys g ++ keys h)))
    ∙ (λ i. added_list (entries-graph b i) (entries-graph c i)))

-- ---- path by path
-- What a bag has at a path.
abbrev pub node_in : Bag → Path → Option Node
node_in b q = cond (is_entered_in b q) (Some (record { bytes = bytes_in b q; is_unique = is_unique_in b q })) None

abbrev pub merge : Option Node → Option Node → Option Node
merge a None = a
merge a (Some n) = Some (together a n)

-- One entry more in a bag adds its bytes at its own path, and nothing at other paths.
pub bytes-cons : (e : Entry) (b : Bag) (q : Path) →
    bytes_in (e ∷ b) q ≡ cond (is_same_path q e.path) e.size 0 + bytes_in b q
bytes-cons e b q = sum_by-cons (λ e. cond (is_same_path q e.path) e.size 0) e b

-- If a bag has no entry at a path, it has no bytes there.
pub bytes_none : (b : Bag) (q : Path) → is_entered_in b q ≡ false → bytes_in b q ≡ 0
bytes_none [] q h = refl
bytes_none (e ∷ b) q h = grind (arith, bytes_none b q, bytes-cons e b q)

-- If a bag has no entry at a path, it has no unique entry there.
unique_none : (b : Bag) (q : Path) → is_entered_in b q ≡ false → is_unique_in b q ≡ false
unique_none [] q h = refl
unique_none (e ∷ b) q h = grind (arith, unique_none b q)

-- An entry added to sums is joined to what its path had there. Other paths stay as they were.
pub get-add : (s : Sums) (e : Entry) (q : Path) →
    get (add s e) q ≡ cond (is_same_path q e.path) (Some (together (get s e.path) (node_of e))) (get s q)
get-add s e q = get-insert path_total s e.path _ q

-- Sums with a bag added have at each path what they had there, together with what the bag has there.
pub get-add_all : (s : Sums) (b : Bag) (q : Path) → get (add_all s b) q ≡ merge (get s q) (node_in b q)
get-add_all s [] q = refl
get-add_all s (e ∷ b) q = grind
    (arith, get-add_all (add s e) b q, get-add, bytes-cons, same_path q e.path, bytes_none b q, unique_none b q)

-- The sums of a bag have at each path what the bag has there.
pub get-sums_of : (b : Bag) (q : Path) → get (sums_of b) q ≡ node_in b q
get-sums_of b q = get-add_all empty b q ∙ ap (λ o. merge o (node_in b q)) (get-empty path_cmp q) ∙ grind arith

-- Sums that have the same at each path are equal.
pub same_sums : (s t : Sums) → ((q : Path) → get s q ≡ get t q) → s ≡ t
same_sums = same_map path_total path_antisymmetric

-- ---- bags with the same sums, whatever is added up of their entries
abbrev pub SameSums : Bag → Bag → Type 0
SameSums b c = (w : Entry → ℕ) → sum_by w b ≡ sum_by w c

-- An entry of a bag passes a test exactly if the number of entries that pass it is above 0.
any_counted : (test : Entry → Bool) (b : Bag) → list_any test b ≡ nat_lt 0 (sum_by (λ e. cond (test e) 1 0) b)
any_counted test [] = refl
any_counted test (e ∷ b) = rw (any_counted test b, sum_by-cons (λ e. cond (test e) 1 0) e b) (grind (arith, nat_tests))

-- Of two bags with the same sums, both have an entry that passes a test, or neither has.
any_same : (test : Entry → Bool) (b c : Bag) → SameSums b c → list_any test b ≡ list_any test c
any_same test b c h = any_counted test b ∙ ap (nat_lt 0) (h (λ e. cond (test e) 1 0)) ∙ sym (any_counted test c)

-- Two bags with the same sums have the same at each path.
node_in-same : (b c : Bag) → SameSums b c → (q : Path) → node_in b q ≡ node_in c q
node_in-same b c h q = λ i. cond (any_same (λ e. is_same_path q e.path) b c h i)
    (Some (record {
      bytes = h (λ e. cond (is_same_path q e.path) e.size 0) i;
      is_unique =
          any_same (λ e. cond (is_same_path q e.path) (is_unique_mark e.mark) false) b c h i;
    })) None

-- Two bags with the same sums, each added to the same sums, give one result.
pub add_all-same : (s : Sums) (b c : Bag) → SameSums b c → add_all s b ≡ add_all s c
add_all-same s b c h = same_sums _ _ (λ q. get-add_all s b q ∙ ap (merge (get s q)) (node_in-same b c h q)
    ∙ sym (get-add_all s c q))

-- ---- sums over the entries of a map
-- An ordering that tests as less is `Less`.
pub is_lt-Less : (r : Ordering) → T (is_lt r) → r ≡ Less
is_lt-Less Less h = refl
is_lt-Less r h = absurd h

-- A key that comes before all keys of a list is not found in it.
pub find-below_all : {K X : Type 0} (R : K → K → Ordering) (k : K) (es : List (K × X)) → T (below_all R k es) →
    find R k es ≡ None
find-below_all R k [] h = refl
find-below_all R k (e ∷ es) h = ap (λ r. cond (is_eq r) (Some e.1) (find R k es)) (is_lt-Less (R k e.0) (first _ _ h))
    ∙ find-below_all R k es (second (is_lt (R k e.0)) _ h)

-- Keys of a map of which only equal ones tie.
module _ {K X : Type 0} {R : K → K → Ordering} (total : IsTotalOrder R) (same : IsAntisymmetric R) where
  -- A search finds the value of a key exactly if the key is listed.
  pub find-keys : (v : K → X) (ks : List K) (q : K) →
      find R q (map (λ k. (k, v k)) ks) ≡ cond (list_any (eq_by_cmp R q) ks) (Some (v q)) None
  find-keys v [] q = refl
  find-keys v (k ∷ ks) q = let tied = λ (h : IsTrue (eq_by_cmp R q k)). same q k (is_eq-Equal _ h) in
      grind (arith, tied, find-keys v ks q)

  below_all-less : (k p : K) (es : List (K × X)) → R k p ≡ Less → T (below_all R p es) → T (below_all R k es)
  below_all-less k p [] h g = tt
  below_all-less k p (e ∷ es) h g = both _ _ (subst (λ r. T (is_lt r))
      (sym (total.trans k p e.0 h (is_lt-Less _ (first _ _ g)))) tt)
      (below_all-less k p es h (second (is_lt (R p e.0)) _ g))

  -- A sum over the entries when one entry changes by d.
  module _ (weight : K → X → ℕ) where
    abbrev weigh : K × X → ℕ
    weigh e = weight e.0 e.1

    abbrev Changes : K → X → ℕ → Option X → Type 0
    Changes k v d old = weight k v ≡ unwrap_or (option_map (weight k) old) 0 + d

    weights-put : (k : K) (v : X) (d : ℕ) (es : List (K × X)) → T (is_sorted R es) → Changes k v d (find R k es) →
        sum_by weigh (put R k v es) ≡ sum_by weigh es + d
    weights-put k v d [] h e = omega (arith, e)
    weights-put k v d (x ∷ es) h e =
        let none = λ (q : R k x.0 ≡ Less). find-below_all R k es
        (below_all-less k x.0 es q (first (below_all R x.0 es) (is_sorted R es) h)) in
        let rest = weights-put k v d es (second (below_all R x.0 es) _ h) in
        let w = sum_by-cons weigh in
        grind (arith, none, rest, same k x.0, e, w (k, v) (x ∷ es), w (x.0, v) es, w x es, w x (put R k v es))

    -- If a key gets d more of what is weighed, so does the sum.
    pub weights-insert : (m : FinMap R X) (k : K) (v : X) (d : ℕ) → Changes k v d (get m k) →
        sum_by weigh (entries (insert m k v)) ≡ sum_by weigh (entries m) + d
    weights-insert m k v d e = ap (sum_by weigh) (entries-insert total m k v)
        ∙ weights-put k v d (entries m) (entries_sorted m) (subst (Changes k v d) (get-entries m k) e)

-- The bytes at the paths that count, after one more entry.
added_bytes : (counts : Path → Bool) (s : Sums) (e : Entry) →
    sum_by (λ x. cond (counts x.0) x.1.bytes 0) (entries (add s e))
    ≡ sum_by (λ x. cond (counts x.0) x.1.bytes 0) (entries s) + cond (counts e.path) e.size 0
added_bytes counts s e = weights-insert path_total path_antisymmetric (λ p n. cond (counts p) n.bytes 0) s e.path
    (together (get s e.path) (node_of e)) (cond (counts e.path) e.size 0) (grind arith)

-- One more entry adds its bytes to those one key below p if it is one key below p, and otherwise none.
pub below-add : (s : Sums) (e : Entry) (p : Path) →
    below (add s e) p ≡ below s p + cond (is_one_below p e.path) e.size 0
below-add s e p = added_bytes (is_one_below p) s e

-- One more entry adds its bytes to all bytes entered.
pub bytes_entered-add : (s : Sums) (e : Entry) → bytes_entered (add s e) ≡ bytes_entered s + e.size
bytes_entered-add s e = added_bytes (λ p. true) s e

-- Empty sums have no bytes entered.
pub bytes_entered-empty : bytes_entered empty ≡ 0
bytes_entered-empty = ap (sum_by (λ x. x.1.bytes)) entries-empty

-- Adding a bag adds the bytes that it has one key below p to those that the sums have there.
pub below-add_all : (s : Sums) (b : Bag) (p : Path) → below (add_all s b) p ≡ below s p + below_in b p
below-add_all s [] p = omega arith
below-add_all s (e ∷ b) p = omega (arith, below-add_all (add s e) b p, below-add, sum_by-cons {X = Entry})

-- The sums of a bag have the same bytes one key below each path as the bag itself.
pub below-sums_of : (b : Bag) (p : Path) → below (sums_of b) p ≡ below_in b p
below-sums_of b p = omega (arith, below-add_all empty b p, ap (λ es. below_list es p) entries-empty)

-- ---- a path with an entry one key below it has an entry itself, or is the root
-- The path r with one more key is one key below q exactly if q is r.
pub one_below_is : (q r : Path) (k : Key) → is_one_below q (r ++ k ∷ []) ≡ is_same_path q r
one_below_is [] [] k = refl
one_below_is [] (l ∷ []) k = refl
one_below_is [] (l ∷ m ∷ r) k = refl
one_below_is (a ∷ []) [] k = grind arith
one_below_is (a ∷ b ∷ p) [] k = grind arith
one_below_is (a ∷ p) (l ∷ r) k = grind (arith, one_below_is p r k, tied_then (key_cmp a l) (path_cmp p r))

-- Whether b has an entry one key below p.
abbrev has_below : Bag → Path → Bool
has_below b p = list_any (λ e. is_one_below p e.path) b

-- A path with an entry one key below it is r, or is entered.
pub record Closed (r : Path) (b : Bag) : Type 0 where
  pub has : (p : Path) → IsTrue (has_below b p) → IsTrue (is_same_path p r || is_entered_in b p)

-- If two bags are closed at r, so are both one after another.
closed_append : {r : Path} {b c : Bag} → Closed r b → Closed r c → Closed r (b ++ c)
closed_append {b = b} {c = c} x y = record {
  has = λ p. simp list_any-append (λ h. grind (arith, x.has p, y.has p));
}

-- An entry at r ++ k ∷ [], with others inside it and after it.
closed_entry : (r : Path) (k : Key) (n : ℕ) (m : Mark) {b c : Bag} → Closed (r ++ k ∷ []) b → Closed r c →
    Closed r (record { path = r ++ k ∷ []; size = n; mark = m } ∷ (b ++ c))
closed_entry r k n m {b = b} {c = c} x y = record {
  has = λ p. simp list_any-append (λ h. grind (arith, x.has p, y.has p, one_below_is p r k));
}

-- A bag without entries is closed at each path.
closed_none : (r : Path) → Closed r []
closed_none r = record { has = λ p h. absurd (true≢false (sym h)) }

-- The own entries of a forest with the path r before theirs are closed at r.
closed_behind : (r : Path) (f : Forest) → Closed r (own_behind r f)
closed_behind r Empty = closed_none r
closed_behind r (Inline k n f after) =
    closed_entry r k n AsInline (closed_behind (r ++ k ∷ []) f) (closed_behind r after)
closed_behind r (Unique k n f after) =
    closed_entry r k n AsUnique (closed_behind (r ++ k ∷ []) f) (closed_behind r after)
closed_behind r (First k n j f after) = closed_entry r k n (AsShared j) (closed_none _) (closed_behind r after)
closed_behind r (Again k n j after) = closed_entry r k n (AsShared j) (closed_none _) (closed_behind r after)

-- If the contents of two forests are closed at the root, so are all of them.
closed_both : (f g : Forest) → Closed [] (content_entries f) → Closed [] (content_entries g) →
    Closed [] (flat_map (λ c. c.1) (contents f ++ contents g))
closed_both f g x y = rw (flat_map-append (λ (c : Identity × Bag). c.1) (contents f) (contents g)) (closed_append x y)

-- The entries of all contents are closed at the root.
closed_contents : (f : Forest) → Closed [] (content_entries f)
closed_contents Empty = closed_none []
closed_contents (Inline k n f after) = closed_both f after (closed_contents f) (closed_contents after)
closed_contents (Unique k n f after) = closed_both f after (closed_contents f) (closed_contents after)
closed_contents (First k n j f after) =
    closed_append (closed_behind [] f) (closed_both f after (closed_contents f) (closed_contents after))
closed_contents (Again k n j after) = closed_contents after

-- All entries of a forest are closed at the root.
pub closed_all : (f : Forest) → Closed [] (all f)
closed_all f = closed_append (closed_behind [] f) (closed_contents f)

-- If a bag has an entry at p with one more key, it has an entry one key below p.
pub below_entered : (p : Path) (k : Key) (b : Bag) → IsTrue (is_entered_in b (p ++ k ∷ [])) → IsTrue (has_below b p)
below_entered p k [] h = h
below_entered p k (e ∷ b) h =
    grind (arith, h, below_entered p k b, same_path (p ++ k ∷ []) e.path, one_below_is p p k, same_path_itself p)

-- If a bag has no entry one key below p, it has no bytes there.
below_none : (b : Bag) (p : Path) → has_below b p ≡ false → below_in b p ≡ 0
below_none [] p h = refl
below_none (e ∷ b) p h =
    grind (arith, h, below_none b p, sum_by-cons (λ e. cond (is_one_below p e.path) e.size 0) e b)

-- If a path other than the root was not entered, it has no bytes below it.
pub absent_below : (f : Forest) (k : Key) (p : Path) → get (sums_of (all f)) (k ∷ p) ≡ None →
    below (sums_of (all f)) (k ∷ p) ≡ 0
absent_below f k p h =
    grind (arith, h, get-sums_of, below-sums_of, below_none (all f) (k ∷ p), (closed_all f).has (k ∷ p))
