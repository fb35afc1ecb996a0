-- A node with this parent and this key is the child, and no other node is.
use Rattle.std.proofs.Common.{◌≡◌, ◌≢◌, ◌-◌, ◌^◌, ◌<◌, ◌↔◌, false, length, arith, sym, ap, ◌∙◌}
use Rattle.allocative_collectors.proofs.Common.{Node, IsEntered, parent_at, at, no_node}
use Rattle.std.proofs.lemmas.Slice.Eq.{bytes_eq-Decides}
use Rattle.allocative_collectors.proofs.NodeReads.{in_nodes, was_entered, child_of}
use Rattle.allocative_collectors.proofs.tree.Tree.is_child.Goals as goal
use Rattle.allocative_collectors.proofs.tree.Tree.is_child.Goals.{In-Some}

-- the node that was read
read : (c : In-Some) → let items = c.self.inside.nodes.items in
    (c.args.number < length items) × (at items c.args.number ≡ c.in-Some.node.now)
read c =
    let node = c.in-Some.ensures.lookup.3 in
    rw (← c.deref.ensures.value) (node.0, sym (node.1 no_node))

-- It is the child exactly if its parent and its key are right. The root's parent is no node.
guess : (c : In-Some) → let n = c.in-Some.node.now in
    IsEntered c.args.self.now c.args.self.now c.args.at c.args.key.now 0 false c.args.number ↔
    ((n.parent ≡ c.args.at) × (n.key ≡ c.args.key.now))
guess c =
    let items = c.self.inside.nodes.items in
    let i = c.args.number in
    let n = c.in-Some.node.now in
    let here = in_nodes items c.args.at c.self.view_is c.requires in
    let parent = ap (λ (s : Node). s.parent) (read c).1 in
    let key = ap (λ (s : Node). s.key) (read c).1 in
    rw (← c.self.view_is) (
      (λ entered. let child = child_of items c.self.invariant.arena c.args.at here c.args.key.now i (read c).0
          entered.path in (sym parent ∙ child.0.parent, sym key ∙ child.1)),
      (λ right.
          let some : i ≢ 0 = λ root. (let far : n.parent ≡ 2 ^ 64 - 1 =
          sym parent ∙ (ap (parent_at items) root ∙ c.self.invariant.arena.root_parent) in
          omega (arith, here, c.self.inside.nodes.ok.0, far, right.0)) in
          was_entered items c.self.invariant.arena c.args.at here c.args.key.now i
          (record { not_root = omega arith; in_range = (read c).0; parent = parent ∙ right.0 }) (key ∙ right.1)),
    )

pub returns-then-node-at : goal.returns-then-node-at
returns-then-node-at c =
    let here = (goal.at.returns-then-node-at c).In-Some in
    let same_keys = bytes_eq-Decides c.args.key.now c.in-Some.node.now.key in (
      (λ same. (guess here).1 (c.if-node-at.true, sym (same_keys.0 (sym c.eq.ensures ∙ same)))),
      (λ entered. c.eq.ensures ∙ same_keys.1 (sym ((guess here).0 entered).1)),
    )
