-- By how much paths grew: the children of a path, and the paths of a node from those of its children.
use Rattle.std.proofs.Common.{◌≡◌, ℕ, ◌+◌, ◌<◌, ◌-◌, ◌==◌, ◌&&◌, Bool, true, false, cond, List, [], ◌∷◌, ◌++◌}
use Rattle.std.proofs.Common.{length, map, get_or, refl, sym, ap, ◌∙◌, arith, append_assoc, append-nil, count_by, take}
use Rattle.std.proofs.Common.{unwrap_or, Option, None, sum_by}
use Rattle.allocative_picture.proofs.Common.{Path, Key, Child, Graph, Sizes, entries, node, AreChildren, InOrder}
use Rattle.allocative_picture.proofs.Common.{key_cmp, sum_by-cons, size_at, total_at, is_same_path, size_in, total_in, AllByRecursion}
use Rattle.std.proofs.lemmas.Simd.{map-map}
use Rattle.std.specs.Ordering.{eq_by_cmp}
use Rattle.allocative_graph.specs.Path.{is_one_below}
use Rattle.allocative_graph.specs.Graph.{IsTree}
use Rattle.allocative_graph.specs.Rows.{rows_of}
use Rattle.allocative_graph.specs.Representation.NodeRows.{entries-node}
use Rattle.allocative_graph.proofs.Children.{rows-cons, get-under}
use Rattle.allocative_graph.proofs.Nodes.{size_under-found, total_at-child}
use Rattle.allocative_picture.proofs.Geometry.{stands_once}
use Rattle.allocative_picture.proofs.Walking.{child_has, node_rows, one_keyed, rows_by_child, rows_more, sum_if}
use Rattle.allocative_picture.specs.declared.table.Size.{Size}
use Rattle.allocative_picture.specs.declared.table.Size.TheVariants.{Own, Total}
use Rattle.allocative_picture.specs.Table.{behind, children_at, growth_in, growths, weight_in, weights, weighed}
use Rattle.allocative_picture.specs.Table.{is_passed_over}

-- ---- the children of a path
-- How many of some rows have one key more than p.
abbrev counted : Path → Sizes → ℕ
counted p rs = count_by (λ e. is_one_below p e.0) rs

-- Whether a row has one key more than p, as a number.
abbrev one : Path → Path × ℕ → ℕ
one p e = cond (is_one_below p e.0) 1 0

-- Rows count below a key if it is theirs.
counted_if : (b : Bool) (p : Path) (rs : Sizes) →
    sum_by (λ e. cond (b && is_one_below p e.0) 1 0) rs ≡ cond b (counted p rs) 0
counted_if true p rs = refl
counted_if false p rs = sum_if false (one p) rs

-- A path of a child has as many children in the node.
children_at-child : (n : ℕ) (cs : List Child) (i : ℕ) (d : Child) (p : Path) → InOrder cs → i < length cs →
    children_at (node n cs) ((get_or cs i d).key ∷ p) ≡ children_at (get_or cs i d).graph p
children_at-child n cs i d p o w =
    let k = (get_or cs i d).key in
    let below : sum_by (λ c. sum_by (λ e. one (k ∷ p) (c.key ∷ e.0, e.1)) (entries c.graph)) cs
    ≡ sum_by (λ c. cond (eq_by_cmp key_cmp k c.key) (children_at c.graph p) 0) cs =
    λ j. sum_by (λ c. counted_if (eq_by_cmp key_cmp k c.key) p (entries c.graph) j) cs in
    omega (
      arith,
      ap (counted (k ∷ p)) (entries-node n cs o),
      sum_by-cons (one (k ∷ p)) ([], n) (rows_of cs),
      rows_by_child (one (k ∷ p)) cs,
      below,
      one_keyed (λ c. children_at c.graph p) k cs i d o w refl,
    )

-- A path is one key below the root if it is that key alone.
one_key : (k : Key) (q : Path) → is_one_below [] (k ∷ q) ≡ is_same_path [] q
one_key k [] = refl
one_key k (l ∷ q) = refl

roots : (cs : List Child) → AllByRecursion (λ (c : Child). IsTree c.graph) cs → counted [] (rows_of cs) ≡ length cs
roots [] h = refl
roots (c ∷ cs) h =
    let root : sum_by (λ (r : Path × ℕ). one [] (c.key ∷ r.0, r.1)) (entries c.graph) ≡ 1 =
    (λ i. sum_by (λ (r : Path × ℕ). cond (one_key c.key r.0 i) 1 0) (entries c.graph))
    ∙ stands_once c.graph [] h.0.root in
    omega (arith, rows-cons (one []) c cs, root, roots cs h.1)

-- The root of a node has the children of the node.
pub children_counted : (g : Graph) (n : ℕ) (cs : List Child) →
    g ≡ node n cs → AreChildren cs → children_at g [] ≡ length cs
children_counted g n cs whole h =
    omega (
      arith,
      ap (λ (x : Graph). children_at x []) whole,
      ap (counted []) (entries-node n cs h.sorted),
      sum_by-cons (one []) ([], n) (rows_of cs),
      roots cs h.trees,
    )

-- ---- growth
-- Without an earlier graph a path grew by all its bytes.
pub all_grew : (s : Size) (g : Graph) → growths s None g ≡ weights s g
all_grew s g = λ i. weighed (λ p. each s p i) (entries g)
  where
    each : (s : Size) (p : Path) → growth_in s None g p ≡ weight_in s g p
    each Own p = let e : size_at g p - 0 ≡ size_at g p = omega arith in e
    each Total p =
        let e : total_at g p - 0 ≡ total_at g p = omega arith in
        ap (λ n. cond (is_passed_over Total g p) 0 n) e

-- A path grew as much in a node as in its child, if its bytes before are the same.
growth-same : (s : Size) (o u : Option Graph) (g x : Graph) (p q : Path) → size_at g p ≡ size_at x q →
    total_at g p ≡ total_at x q → children_at g p ≡ children_at x q → size_in o p ≡ size_in u q →
    total_in o p ≡ total_in u q → growth_in s o g p ≡ growth_in s u x q
growth-same Own o u g x p q own whole children own_before whole_before = λ i. own i - own_before i
growth-same Total o u g x p q own whole children own_before whole_before =
    λ i. cond ((own i == 0) && (children i == 1)) 0 (whole i - whole_before i)

-- The paths of a graph behind some keys, with what f gives them.
abbrev pub given : (Path → ℕ) → Path → Path × ℕ → Path × ℕ
given f ks e = (ks ++ e.0, f e.0)

-- The paths of a node are its own and those of its children.
pub node_grew : (s : Size) (o : Option Graph) (ks : Path) (n : ℕ) (cs : List Child) (g : Graph) → g ≡ node n cs →
    AreChildren cs →
    behind ks (growths s o g) ≡ (ks, growth_in s o g []) ∷ map (given (growth_in s o g) ks) (rows_of cs)
node_grew s o ks n cs g whole h =
    let grew = growth_in s o g in
    map-map (λ (e : Path × ℕ). (ks ++ e.0, e.1)) (λ (e : Path × ℕ). (e.0, grew e.0)) (entries g)
    ∙ node_rows (given grew ks) n cs g whole h ∙ (λ j. (append-nil ks j, grew []) ∷ map (given grew ks) (rows_of cs))

-- The paths of one child more grew as they did in the node.
pub child_grew : (s : Size) (o u : Option Graph) (n : ℕ) (cs : List Child) (i : ℕ) (d : Child) (g : Graph) (ks : Path) →
    g ≡ node n cs → AreChildren cs → i < length cs → d ≡ get_or cs i d →
    ((p : Path) → size_in o (d.key ∷ p) ≡ size_in u p) → ((p : Path) → total_in o (d.key ∷ p) ≡ total_in u p) →
    map (given (growth_in s o g) ks) (rows_of (take (i + 1) cs))
    ≡ map (given (growth_in s o g) ks) (rows_of (take i cs)) ++ behind (ks ++ d.key ∷ []) (growths s u d.graph)
child_grew s o u n cs i d g ks whole h w at own_before whole_before =
    let F = given (growth_in s o g) ks in
    let child = ks ++ d.key ∷ [] in
    rows_more F (given (growth_in s u d.graph) child) cs i d w at
    (λ e j. (sym (append_assoc ks (d.key ∷ []) e.0) j, each e.0 j))
    ∙ ap (λ (es : Sizes). map F (rows_of (take i cs)) ++ es) (sym (map-map
    (λ (e : Path × ℕ). (child ++ e.0, e.1)) (λ (e : Path × ℕ). (e.0, growth_in s u d.graph e.0)) (entries d.graph)))
  where
    each : (p : Path) → growth_in s o g (d.key ∷ p) ≡ growth_in s u d.graph p
    each p = growth-same s o u g d.graph (d.key ∷ p) p
        (child_has size_at n cs g i d whole at (λ q. ap (λ (m : Option ℕ). unwrap_or m 0)
        (get-under n cs (get_or cs i d).key q h.sorted
        ∙ size_under-found (get_or cs i d).key q cs i d h.sorted w refl)) p)
        (child_has total_at n cs g i d whole at (λ q. total_at-child n cs i d q h.sorted w) p)
        (child_has children_at n cs g i d whole at (λ q. children_at-child n cs i d q h.sorted w) p)
        (own_before p) (whole_before p)
