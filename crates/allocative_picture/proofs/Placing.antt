-- The frames of a graph: the bytes before each, that of its root and then those of its children.
use Rattle.std.proofs.Common.{◌≡◌, ℕ, ◌+◌, ◌<◌, ◌≤◌, cond, false, List, [], ◌∷◌, ◌++◌, map, sum_by, length, refl, sym, ap, subst, ◌∙◌}
use Rattle.std.proofs.Common.{append_assoc, append-nil, arith, get_or, is_lt, is_eq, Bool, true, Less, Equal, Greater, Ordering}
use Rattle.allocative_picture.proofs.Common.{entries, is_sorted, below_all, Path, Key, key_cmp, ordering_then}
use Rattle.allocative_picture.proofs.Common.{path_cmp, Graph, total_at, frame_of, frame_behind, len, eq_by_cmp_equiv, nat_list_cmp_total}
use Rattle.allocative_picture.proofs.Common.{Child, total, total_of, sum_by-le-sum_by, FrameData, frame_from, sum_by-cons}
use Rattle.allocative_picture.proofs.Common.{node, first, second, Sizes, length-map, len-entries, AreChildren, drop-map, take_rest}
use Rattle.allocative_picture.proofs.Starting.{other_place}
use Rattle.allocative_picture.proofs.Walking.{child_has, node_rows, one_keyed, rows_by_child, sum_if, sum_split}
use Rattle.allocative_graph.proofs.Basics.{is_eq-Equal, key_itself}
use Rattle.allocative_graph.proofs.Nodes.{total_at-child}
use Rattle.allocative_graph.specs.Rows.{rows_of}
use Rattle.allocative_graph.specs.Representation.NodeRows.{entries-node}
use Rattle.std.specs.List.{remove}
use Rattle.std.specs.Ordering.{eq_by_cmp}
use Rattle.std.proofs.lemmas.List.Sums.{sum_by-remove}
use Rattle.std.proofs.lemmas.Map.Lookups.{exact_bytes as key_same}
use Rattle.std.proofs.lemmas.Option.{slice_get-map}
use Rattle.allocative_picture.specs.Frames.{before_at, frames_of}
use Rattle.allocative_picture.specs.Places.{before_in, bytes_before, child_place, place, place_key}
use Rattle.allocative_picture.specs.declared.frame.Mark.{Mark}
use Rattle.allocative_picture.specs.declared.options.Order.{Order}

-- The bytes of some entries together.
abbrev pub bytes_of : Sizes → ℕ
bytes_of es = sum_by (λ e. e.1) es

-- ---- the frames of a node
-- No path comes before the root.
pub never_first : (n : ℕ) (q : Path) → cond (is_lt (path_cmp q [])) n 0 ≡ 0
never_first n [] = refl
never_first n (l ∷ q) = refl

-- No bytes are drawn before the root.
before-root : (o : Order) (f : Path → ℕ) (es : Sizes) → before_in o f es [] ≡ 0
before-root o f es =
    (λ i. sum_by (λ e. never_first e.1 (place o f e.0) i) es) ∙ sum_if false (λ (e : Path × ℕ). e.1) es

-- The bytes of some entries whose places come before that of p, if r says how the keys before both are placed.
abbrev before_by : Order → (Path → ℕ) → (Path → ℕ) → Path → Ordering → Sizes → ℕ
before_by o u v p r es = sum_by (λ e. cond (is_lt (ordering_then r (path_cmp (place o u e.0) (place o v p)))) e.1 0) es

-- Below another child all bytes are drawn before the path, or none.
beside_child : (o : Order) (u v : Path → ℕ) (p : Path) (r : Ordering) (es : Sizes) →
    is_eq r ≡ false → before_by o u v p r es ≡ cond (is_lt r) (bytes_of es) 0
beside_child o u v p Less es h = refl
beside_child o u v p Equal es h = cc
beside_child o u v p Greater es h = sum_if false (λ (e : Path × ℕ). e.1) es

module _ (o : Order) (f : Path → ℕ) (c : Child) (p : Path) where
  -- The bytes of an entry that are drawn before a path of the child c.
  abbrev drawn_before : Path × ℕ → ℕ
  drawn_before e = cond (is_lt (path_cmp (place o f e.0) (place o f (c.key ∷ p)))) e.1 0

  -- The bytes of a child that are drawn before it.
  abbrev drawn : Child → ℕ
  drawn d = sum_by (λ e. drawn_before (d.key ∷ e.0, e.1)) (entries d.graph)

  -- How a child is placed beside c.
  abbrev beside : Child → Ordering
  beside d = key_cmp (place_key o (f (d.key ∷ [])) d.key) (place_key o (f (c.key ∷ [])) c.key)

  -- Of another child they are all or none.
  of_child : (d : Child) →
      drawn d ≡ cond (is_lt (beside d)) (total d.graph) 0 + cond (eq_by_cmp key_cmp c.key d.key) (drawn d) 0
  of_child d = by (eq_by_cmp key_cmp c.key d.key) refl
    where
      by : (b : Bool) → eq_by_cmp key_cmp c.key d.key ≡ b →
          drawn d ≡ cond (is_lt (beside d)) (total d.graph) 0 + cond b (drawn d) 0
      by true same =
          let none : beside d ≡ Equal =
          subst (λ l. key_cmp (place_key o (f (l ∷ [])) l) (place_key o (f (c.key ∷ [])) c.key) ≡ Equal)
          (key_same c.key d.key (is_eq-Equal (key_cmp c.key d.key) same))
          (key_itself (place_key o (f (c.key ∷ [])) c.key)) in
          omega (arith, ap (λ r. cond (is_lt r) (total d.graph) 0) none)
      by false other =
          let all : drawn d ≡ cond (is_lt (beside d)) (total d.graph) 0 =
          beside_child o (λ q. f (d.key ∷ q)) (λ q. f (c.key ∷ q)) p (beside d) (entries d.graph)
          (other_place o (f (d.key ∷ [])) (f (c.key ∷ [])) d.key c.key
          ((eq_by_cmp_equiv nat_list_cmp_total).symm d.key c.key ∙ other)) in
          omega (arith, all)

  -- Of the child itself they are those that are drawn before the path in it.
  itself : ((q : Path) → f (c.key ∷ q) ≡ total_at c.graph q) → drawn c ≡ before_at o c.graph p
  itself here =
      (λ t. before_by o (λ q. here q t) (λ q. here q t) p (beside c) (entries c.graph))
      ∙ ap (λ r. before_by o (total_at c.graph) (total_at c.graph) p r (entries c.graph))
      (key_itself (place_key o (f (c.key ∷ [])) c.key))

module _ (o : Order) (M : Path → Mark) (b : ℕ) (ks : Path) (g : Graph) (n : ℕ) (cs : List Child) (whole : g ≡ node n cs)
    (children : AreChildren cs) where
  -- A child has the bytes of the graph.
  child_total : (i : ℕ) (d : Child) (p : Path) → i < length cs →
      total_at g ((get_or cs i d).key ∷ p) ≡ total_at (get_or cs i d).graph p
  child_total i d p w = ap (λ (x : Graph). total_at x ((get_or cs i d).key ∷ p)) whole
      ∙ total_at-child n cs i d p children.sorted w

  child_bytes : (i : ℕ) (c : Child) → i < length cs → c ≡ get_or cs i c → (p : Path) →
      total_at g (c.key ∷ p) ≡ total_at c.graph p
  child_bytes i c w at =
      child_has total_at n cs g i c whole at (λ p. total_at-child n cs i c p children.sorted w)

  -- Before a path of a child are the bytes of the root, of the children drawn first, and those before it in the child.
  before-child : (i : ℕ) (c : Child) (p : Path) → i < length cs → c ≡ get_or cs i c →
      before_at o g (c.key ∷ p) ≡ n + bytes_before o cs c + before_at o c.graph p
  before-child i c p w at =
      let f = total_at g in
      let here = child_bytes i c w at in
      let first : Child → Ordering → ℕ = λ d r. cond (is_lt r) (total d.graph) 0 in
      let its : Child → ℕ = λ d. cond (eq_by_cmp key_cmp c.key d.key) (drawn o f c p d) 0 in
      let split = sum_split (drawn o f c p) (λ d. first d (key_cmp (child_place o d) (child_place o c))) its cs
      (λ j d v. of_child o f c p (get_or cs j d) ∙ (λ t. first (get_or cs j d)
      (key_cmp (place_key o (child_total j d [] v t) (get_or cs j d).key) (place_key o (here [] t) c.key))
      + its (get_or cs j d))) in
      let own = one_keyed (drawn o f c p) c.key cs i c children.sorted w (ap (λ (x : Child). x.key) (sym at))
      ∙ ap (drawn o f c p) (sym at) ∙ itself o f c p here in
      ap (λ (es : Sizes). before_in o f es (c.key ∷ p)) (ap entries whole ∙ entries-node n cs children.sorted)
      ∙ omega (
        arith,
        sum_by-cons (drawn_before o f c p) ([], n) (rows_of cs),
        rows_by_child (drawn_before o f c p) cs,
        split,
        own,
      )

  -- A frame of a child is its frame in the graph.
  pub child_frame : (i : ℕ) (c : Child) (start : ℕ) → i < length cs → c ≡ get_or cs i c →
      start ≡ b + n + bytes_before o cs c → (e : Path × ℕ) →
      frame_behind o M b ks g (c.key ∷ e.0, e.1) ≡ frame_behind o M start (ks ++ c.key ∷ []) c.graph e
  child_frame i c start w at is e =
      let before : start + before_at o c.graph e.0 ≡ b + before_at o g (c.key ∷ e.0) =
      omega (arith, is, before-child i c e.0 w at) in
      let bytes : total_at g (c.key ∷ e.0) ≡ total_at c.graph e.0 =
      child_bytes i c w at e.0 in
      λ t. frame_from M (sym before t)
      (record { path = sym (append_assoc ks (c.key ∷ []) e.0) t; self_size = e.1; total_size = bytes t })

  -- The frames of a node are its own and then those of its children.
  pub node_frames : map (frame_behind o M b ks g) (entries g)
      ≡ frame_from M b (record { path = ks; self_size = n; total_size = total g })
      ∷ map (frame_behind o M b ks g) (rows_of cs)
  node_frames =
      let first : b + before_at o g [] ≡ b = omega (arith, before-root o (total_at g) (entries g)) in
      node_rows (frame_behind o M b ks g) n cs g whole children
      ∙ (λ t. frame_from M (first t) (record { path = append-nil ks t; self_size = n; total_size = total g })
      ∷ map (frame_behind o M b ks g) (rows_of cs))

-- If no keys and no bytes are before a graph, its frames are those that are drawn.
pub frames_alone : (o : Order) (M : Path → Mark) (g : Graph) →
    map (frame_behind o M 0 [] g) (entries g) ≡ frames_of o M g
unfolding frames_of
frames_alone o M g =
    let none : (n : ℕ) → 0 + n ≡ n = λ n. omega arith in
    λ t. map (λ e. frame_from M (none (before_at o g e.0) t)
    (record { path = e.0; self_size = e.1; total_size = total_at g e.0 })) (entries g)

-- A graph has a frame for each path.
pub length-frames_of : (o : Order) (M : Path → Mark) (g : Graph) → length (frames_of o M g) ≡ len g
unfolding frames_of
length-frames_of o M g = length-map {B = FrameData} (entries g) (frame_of o M g) ∙ sym (len-entries g)

-- The last key of a path of the code is that of its texts.
pub ruleset last_keys = (slice_get-map, length-map, drop-map, take_rest)

-- A number that may count is at most itself.
at_most : (b : Bool) (n : ℕ) → cond b n 0 ≤ n
at_most true n = omega arith
at_most false n = omega arith

-- What comes before a child and its own bytes are within those of all children.
pub start_total : (o : Order) (cs : List Child) (i : ℕ) (c : Child) → i < length cs → c ≡ get_or cs i c →
    bytes_before o cs c + total c.graph ≤ total_of cs
start_total o cs i c w at =
    let f : Child → ℕ = λ x. cond (is_lt (key_cmp (child_place o x) (child_place o c))) (total x.graph) 0 in
    let none : f (get_or cs i c) ≡ 0 =
    ap f (sym at) ∙ ap (λ r. cond (is_lt r) (total c.graph) 0) (key_itself (child_place o c)) in
    omega (
      arith,
      none,
      ap (λ (x : Child). total x.graph) at,
      sum_by-remove f cs i c w,
      sum_by-remove (λ (x : Child). total x.graph) cs i c w,
      sum_by-le-sum_by f (λ x. total x.graph) (remove cs i) (λ x. at_most _ (total x.graph)),
    )
