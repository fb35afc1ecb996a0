-- of push_changes: what push_changes requires, its loop and changes
use Rattle.std.proofs.Common.{◌≡◌, refl, ℕ, ◌==◌, ◌++◌, [], ◌∷◌, List, Bor, cond, map, arith, ap, sym, ◌∙◌, append_assoc, append-nil}
use Rattle.allocative_graph.proofs.Common.{Graph, Path, entries, len, map-append, node, size_at, sum_of}
use Rattle.allocative_graph.proofs.Nodes.{rows_of_node}
use Rattle.allocative_graph.proofs.Text.{texts, popped}
use Rattle.allocative_service.specs.Changes.{Changed, change_data}
use Rattle.allocative_service.specs.Walk.{changes_behind}
use Rattle.allocative_service.proofs.Walk.{step_at, walk_begins, walk_on, walk_ends}
use Rattle.allocative_service.proofs.history.walk.+push_changes.Goals as goal

pub loop-key-init : goal.loop-key-init
loop-key-init t c = record {
  made = [];
  walk = walk_begins _ _ _ c.children-mine.ensures.children c.children-theirs.ensures.children;
  changes = sym (append-nil _);
  path = refl;
  fewer = omega arith;
}

pub push_changes-requires : goal.push_changes-requires
push_changes-requires t c =
    let s = step_at c.loop-key.invariant.walk c.in-Some.ensures.next in
    let before = ap len c.children-mine.ensures.whole ∙ rows_of_node _ _ c.children-mine.ensures.children in
    let after = ap len c.children-theirs.ensures.whole ∙ rows_of_node _ _ c.children-theirs.ensures.children in
    let fewer = c.loop-key.invariant.fewer in
    (omega (arith, s.1.1.fewer, s.1.2.rows, s.1.3.rows, fewer, c.decreases, before, after), c.requires)

pub loop-key-preserved : goal.loop-key-preserved
loop-key-preserved t c =
    let s = step_at c.loop-key.invariant.walk c.in-Some.ensures.next in
    let g : Graph = c.in-Some.left.0.now in
    let h : Graph = c.in-Some.right.0.now in
    let more : Path → List Changed = λ ls. changes_behind (size_at g) (size_at h) ls (entries (sum_of g h)) in
    let pushed : c.push.new.self.items ≡ c.args.path.now.items ++ c.in-Some.key ∷ [] =
    c.in_ok-push.ensures.items ∙ ap (λ ls. ls ++ c.in-Some.key ∷ []) c.loop-key.invariant.path in
    let behind_it : texts c.push.new.self.items ≡ texts c.args.path.now.items ++ c.in-Some.key.now ∷ [] =
    ap texts pushed ∙ map-append (λ (k : Bor (List ℕ)). k.now) c.args.path.now.items _ in
    record {
      made = _;
      walk = walk_on c.loop-key.invariant.walk _ s;
      changes = c.in_ok-push_changes.ensures.changes ∙ (λ i. c.loop-key.invariant.changes i ++ more (behind_it i))
          ∙ append_assoc (map change_data c.push_change.new.changes.items) c.loop-key.invariant.made _;
      path = popped _ _ _ c.in-Some.key _ c.pop.ensures.rest c.push_changes.new.path.ok.0
          (c.in_ok-push_changes.ensures.path ∙ pushed);
      fewer = omega (arith, s.1.2.fewer, s.1.3.fewer, c.loop-key.invariant.fewer);
    }

pub returns-clause-changes : goal.returns-clause-changes
returns-clause-changes t c =
    let g = c.args.earlier.now in
    let h = c.args.later.now in
    let ks = texts c.args.path.now.items in
    let start = map change_data c.args.changes.now.items in
    let made = c.loop-key.invariant.made in
    let own : ℕ → ℕ → List Changed = λ a b. cond (a == b) [] (record { path = ks; earlier = a; later = b } ∷ []) in
    let before : node (size_at g []) c.children-mine.result.now ≡ g = sym c.children-mine.ensures.whole in
    let after : node (size_at h []) c.children-theirs.result.now ≡ h = sym c.children-theirs.ensures.whole in
    c.loop-key.invariant.changes ∙ ap (λ xs. xs ++ made) c.in_ok-push_change.ensures
    ∙ (λ i. (start ++ own (c.self_size.ensures i) (c.self_size-2.ensures i)) ++ made) ∙ append_assoc start _ made
    ∙ ap (λ xs. start ++ xs) (walk_ends c.loop-key.invariant.walk (size_at g []) (size_at h [])
    c.children-mine.ensures.children c.children-theirs.ensures.children c.in_default.ensures.end
    ∙ (λ i. changes_behind (size_at (before i)) (size_at (after i)) ks (entries (sum_of (before i) (after i)))))
