-- A node's own size and warning, and then the graph of each child with the paths that have a warning.
use Rattle.std.proofs.Common.{◌≡◌, ◌-◌, ◌+◌, ◌<◌, ℕ, List, [], ◌∷◌, ◌++◌, map, length, get_or, Bor, arith, sym, ap}
use Rattle.std.proofs.Common.{subst, ◌∙◌, refl, add-one}
use Rattle.allocative_collectors.proofs.Common.{map_of, Key, under, sum_of, default, add_self, path_at, keys_at, key_at}
use Rattle.allocative_collectors.proofs.Common.{children_at, key_in, size_at_place, warning_of, length-map, map-append}
use Rattle.allocative_collectors.proofs.Common.{ComesLast, numbers, MakesGraph, MakesPart, Node}
use Rattle.allocative_graph.specs.Graph.{Graph, Warned}
use Rattle.allocative_collectors.proofs.NodeReads.{children_read, figures_read, listing_of, listed_bytes, part_start}
use Rattle.allocative_collectors.proofs.NodeReads.{part_more, part_fits, made_all, child_read, none_warned, below_fits}
use Rattle.allocative_collectors.proofs.NodeReads.{warned_at, comes_last, begun}
use Rattle.allocative_graph.proofs.Text.{popped, texts}
use Rattle.allocative_collectors.proofs.tree.Tree.+build_graph.Goals as goal
use Rattle.allocative_collectors.proofs.tree.Tree.+build_graph.Goals.{then-is_short+in_ok-push_warned, else-is_short}
use Rattle.allocative_collectors.proofs.tree.Tree.+build_graph.Goals.{In_ok-children}

-- the numbers of all children, and the keys of the node's own
abbrev lists : (t : ℕ) → In_ok-children t → List (List ℕ)
lists t c = map numbers c.self.inside.children.items

abbrev keys : (t : ℕ) → In_ok-children t → List Key
keys t c = keys_at c.self.inside.nodes.items (lists t c) c.args.at

-- the children that are walked
children : (t : ℕ) (c : In_ok-children t) → children_at (lists t c) c.args.at ≡ c.in_ok-children.children.now
children t c = children_read c.self.invariant c.self.view_is c.args.at c.requires.within c.index.ensures
    ∙ sym c.in_ok-children.ensures

-- there are as many keys as children
count : (t : ℕ) (c : In_ok-children t) → length (keys t c) ≡ length c.in_ok-children.children.now
count t c = length-map (children_at (lists t c) c.args.at) (key_at c.self.inside.nodes.items)
    ∙ ap length (children t c)

-- A step of `build_graph`: child j comes later in the list than its node, and its path is the node's with key j.
child : (t : ℕ) (c : In_ok-children t) (j : ℕ) → j < length c.in_ok-children.children.now →
    let i = get_or c.in_ok-children.children.now j 0 in
    (c.args.at < i) × (i < length c.args.self.now)
    × (path_at c.args.self.now i ≡ path_at c.args.self.now c.args.at ++ key_in (keys t c) j ∷ [])
    × ((d : Node) → (let m = get_or c.self.inside.nodes.items i d in m.key ≡ key_in (keys t c) j))
child t c = child_read c.self.invariant c.self.view_is c.args.at c.in_ok-children.children.now (children t c)

pub bytes_of-size_below-requires-clause-fits : goal.bytes_of-size_below-requires-clause-fits
bytes_of-size_below-requires-clause-fits t c =
    let whole = listed_bytes c.self.invariant c.self.view_is c.args.at c.requires.within c.index.ensures
    c.deref.ensures.value c.in_ok-children.ensures in
    omega (arith, whole, below_fits (map_of c.args.self.now) (path_at c.args.self.now c.args.at), c.requires.fits)

pub loop-child-init : goal.loop-child-init
loop-child-init t c =
    let here = goal.at.loop-child-init t c in
    let size_below = c.bytes_of-size_below.ensures
    ∙ listed_bytes c.self.invariant c.self.view_is c.args.at c.requires.within c.index.ensures c.deref.ensures.value
    c.in_ok-children.ensures in
    let v = c.args.self.now in
    let i = c.args.at in
    let start = map warning_of c.args.warned.now.items in
    let is : c.add_self.new.self ≡ add_self (size_at_place v i) default =
    c.in_ok-add_self.ensures.sum ∙ (λ j. add_self (c.figures-size.ensures.size j) (c.in_ok-graph.ensures j)) in
    let found : map warning_of c.if-is_short.warned.items ≡ start ++ warned_at v i = elim c.if-is_short.branch [
      | then-is_short+in_ok-push_warned w ↦
          (let figures =
          figures_read c.self.invariant c.self.view_is i c.requires.within w.index-then-is_short.ensures in
          let keys : texts w.as_slice.result.now ≡ path_at v i = ap texts w.as_slice.ensures.value ∙ c.requires.keys in
          let short = sym w.if-is_short.true ∙ c.figures-size.ensures.short in
          rw w.warned-is (rw (← short) (cc (w.in_ok-push_warned.ensures, keys, figures.0, size_below))))
      | else-is_short w ↦
          rw w.warned-is (none_warned v i start (sym w.if-is_short.false ∙ c.figures-size.ensures.short))
    ] in
    record {
      keys = refl;
      made = part_start v (listing_of
          c.self.invariant c.self.view_is) i c.requires.within (keys t here.In_ok-children) _ _ _ is found;
    }

pub build_graph-requires : goal.build_graph-requires
build_graph-requires t c =
    let there =
    child t (goal.at.build_graph-requires t c).In_ok-children c.loop-child.child-index c.loop-child-test.true in
    let d : length c.args.self.now - c.args.at ≡ t = c.decreases in
    let lt : length c.args.self.now - get_or c.in_ok-children.children.now c.loop-child.child-index 0 < t =
    omega (arith, there.0, there.1) in
    let text = λ (k : Bor (List ℕ)). k.now in
    let key = c.as_str.ensures ∙ ap (λ (n : Node). n.key) c.index-in-loop-child.ensures
    ∙ there.3 c.index-in-loop-child.result.now in
    let keys : map text c.push.new.self.items
    ≡ path_at c.args.self.now (get_or c.in_ok-children.children.now c.loop-child.child-index 0) =
    ap (map text) c.in_ok-push.ensures.items ∙ map-append text c.loop-child.keys.items (c.as_str.result ∷ [])
    ∙ (λ j. (ap (map text) c.loop-child.invariant.keys ∙ c.requires.keys) j ++ key j ∷ []) ∙ sym there.2 in
    (lt, (there.1, (c.requires.fits, keys)))

-- the graph with the first j children
abbrev Part : (t : ℕ) → In_ok-children t → ℕ → List Warned → List Warned → Graph → Type 0
Part t c j = MakesPart c.args.self.now (path_at c.args.self.now c.args.at) (begun (keys t c) j)

module _ (t : ℕ) (c : In_ok-children t) (j : ℕ) (h : j < length c.in_ok-children.children.now) {w w' : List Warned}
    {g : Graph} (part : Part t c j w w' g) {n : Node}
    (read : n ≡ get_or c.self.inside.nodes.items (get_or c.in_ok-children.children.now j 0) n)
    {k : Key} (copied : k ≡ n.key) where
  key : k ≡ key_in (keys t c) j
  key = copied ∙ (ap (λ (m : Node). m.key) read ∙ (child t c j h).3 n)

  within : j < length (keys t c)
  within = omega (arith, count t c)

  -- the key of the next child comes last
  next : ComesLast g k
  next = subst (ComesLast g) (sym key)
      (comes_last (keys t c) (c.self.invariant.arena.rise c.args.at) j within part)

  -- with its graph, there is one child more
  more : {w'' : List Warned} {d g' : Graph} →
      MakesGraph c.args.self.now (get_or c.in_ok-children.children.now j 0) w' w'' d → g' ≡ sum_of g (under k d) →
      Part t c (j + 1) w w'' g'
  more {w''} {d} {g'} made is = rw (add-one j) (part_more c.args.self.now (listing_of c.self.invariant c.self.view_is)
      c.args.at c.requires.within (keys t c) (c.self.invariant.arena.rise c.args.at) j within _ (child t c j h).2
      w w' w'' g g' d part made (is ∙ ap (λ (l : Key). sum_of g (under l d)) key))

pub push_child-requires : goal.push_child-requires
push_child-requires t c =
    let here = (goal.at.push_child-requires t c).In_ok-children in
    let j = c.loop-child.child-index in
    record {
      last =
          next t here j c.loop-child-test.true c.loop-child.invariant.made c.index-in-loop-child.ensures c.copy.ensures;
      fits = omega (arith, part_fits c.loop-child.invariant.made, part_fits (c.in-Some.ensures []), c.requires.fits);
    }

pub loop-child-preserved-in-Some : goal.loop-child-preserved-in-Some
loop-child-preserved-in-Some t c =
    let here = (goal.at.loop-child-preserved-in-Some t c).In_ok-children in
    let j = c.loop-child.child-index in
    record {
      keys = c.loop-child.invariant.keys;
      made = more t here j c.loop-child-test.true c.loop-child.invariant.made
          c.index-in-loop-child.ensures c.copy.ensures (c.in-Some.ensures _) c.in_ok-push_child.ensures.sum;
    }

pub push_child-requires-in-loop-child : goal.push_child-requires-in-loop-child
push_child-requires-in-loop-child t c =
    let here = (goal.at.push_child-requires-in-loop-child t c).In_ok-children in
    let j = c.loop-child.child-index in
    record {
      last = next t here j c.loop-child-test.true c.loop-child.invariant.made
          c.index-in-loop-child.ensures c.copy-in-loop-child.ensures;
      fits = let so_far = part_fits c.loop-child.invariant.made in
          omega (arith, part_fits c.in_ok-build_graph.ensures.made, c.requires.fits);
    }

pub loop-child-preserved : goal.loop-child-preserved
loop-child-preserved t c =
    let here = (goal.at.loop-child-preserved t c).In_ok-children in
    let j = c.loop-child.child-index in
    record {
      keys = popped c.loop-child.keys.items c.build_graph.new.keys.items
          c.pop.new.self.items c.as_str.result _ c.pop.ensures.rest
          c.build_graph.new.keys.ok.0 (c.in_ok-build_graph.ensures.keys ∙ c.in_ok-push.ensures.items)
          ∙ c.loop-child.invariant.keys;
      made = more t here j c.loop-child-test.true c.loop-child.invariant.made c.index-in-loop-child.ensures
          c.copy-in-loop-child.ensures c.in_ok-build_graph.ensures.made c.in_ok-push_child-2.ensures.sum;
    }

pub returns-clause-made : goal.returns-clause-made
returns-clause-made t c = made_all c.self.invariant c.self.view_is c.args.at c.requires.within
    _ _ _ c.loop-child.child-index (let ended = c.loop-child.auto.child-index-end in
    omega (arith, count t (goal.at.returns-clause-made t c).In_ok-children)) c.loop-child.invariant.made
