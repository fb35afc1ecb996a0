-- of merge, interleave, take_next, put_each and put_child: what they merge, and that sizes fit
use Rattle.std.proofs.Common.{◌≡◌, [], Some, refl, sym, ap, ◌∙◌, arith, is_ok, subst, List}
use Rattle.allocative_graph.proofs.Common.{Child, nil_from_length, total_of, sum_by_push, AreChildren, MergesFirst}
use Rattle.allocative_graph.proofs.Children.{merges_then, merges_rest, merges_all, is_ok-and, merged_same, next_put}
use Rattle.allocative_graph.proofs.Children.{next_less, next_greater, next_equal, front_is, front_total, front_rows}
use Rattle.allocative_graph.proofs.Children.{one_of_length, put_at_found, put_at_gap}
use Rattle.allocative_graph.proofs.Nodes.{merged_graph, child_of_one}
use Rattle.allocative_graph.proofs.flamegraph.+merge.Goals as goal

pub FlameGraph::merge-returns-in_default : goal.FlameGraph::merge-returns-in_default
FlameGraph::merge-returns-in_default t c =
    let none : [] ≡ c.other.inside.children.items =
    sym (nil_from_length _ (sym c.other.inside.children.ok.0 ∙ c.in_default.ensures.cases.0)) in
    merged_graph c.self.view_is c.self.invariant c.other.view_is c.other.invariant refl none
    (merged_same _ c.self.invariant.children)

pub FlameGraph::merge-put_child-requires : goal.FlameGraph::merge-put_child-requires
FlameGraph::merge-put_child-requires t c =
    let one = one_of_length _ c.pop.new.self.items c.in-Some.child c.in-Some.ensures.items
    (omega (arith, c.len.ensures, c.other.inside.children.ok.0, c.if-len-lt2.true)) in
    let child = child_of_one c.self.view_is c.self.invariant c.other.view_is c.other.invariant (sym one) c.requires in
    (omega (arith, c.decreases, child.0), (c.self.invariant.children, (c.self.invariant.size, (child.1, child.2))))

pub FlameGraph::merge-returns-then-len-lt2 : goal.FlameGraph::merge-returns-then-len-lt2
FlameGraph::merge-returns-then-len-lt2 t c =
    let one = one_of_length _ c.pop.new.self.items c.in-Some.child c.in-Some.ensures.items
    (omega (arith, c.len.ensures, c.other.inside.children.ok.0, c.if-len-lt2.true)) in
    merged_graph c.self.view_is c.self.invariant c.other.view_is c.other.invariant refl (sym one)
    c.put_child.ensures.merged

pub FlameGraph::merge-returns : goal.FlameGraph::merge-returns
FlameGraph::merge-returns t c =
    merged_graph c.self.view_is c.self.invariant c.other.view_is c.other.invariant refl refl c.interleave.ensures.merged

pub interleave-loop-child-preserved : goal.interleave-loop-child-preserved
interleave-loop-child-preserved t c =
    record {
      merged = merges_then c.loop-child.invariant.merged c.in-Some.ensures.next
          (ap (λ r. is_ok r) c.and-result.ensures
          ∙ is_ok-and c.loop-child.result c.in-Some.added) c.in-Ok.ensures.items;
      size = omega (arith, c.total_size.ensures.total, ap total_of c.in-Ok.ensures.items, sum_by_push {X = Child});
      capacity = omega (arith, c.loop-child.invariant.capacity, c.in-Ok.ensures.capacity);
    }

pub interleave-returns-clause-merged : goal.interleave-returns-clause-merged
interleave-returns-clause-merged t c = let end = c.in_default.ensures.end in
    merges_all c.loop-child.invariant.merged end.0 end.1

pub take_next-returns-in-Less-clause-next : goal.take_next-returns-in-Less-clause-next
take_next-returns-in-Less-clause-next t c =
    next_less (front_is c.pop_front.ensures.items c.unwrap.ensures) c.requires.mine c.requires.theirs
    (sym c.fronts.ensures ∙ c.in_ok-fronts.was ∙ ap Some c.in-Less.is)

pub take_next-returns-in-Greater-clause-next : goal.take_next-returns-in-Greater-clause-next
take_next-returns-in-Greater-clause-next t c =
    next_greater (front_is c.pop_front-in-Greater.ensures.items c.unwrap-in-Greater.ensures) c.requires.mine
    c.requires.theirs (sym c.fronts.ensures ∙ c.in_ok-fronts.was ∙ ap Some c.in-Greater.is)

pub take_next-returns-in-Equal-clause-next : goal.take_next-returns-in-Equal-clause-next
take_next-returns-in-Equal-clause-next t c =
    next_equal (front_is c.pop_front-in-Equal.ensures.items c.unwrap-child.ensures)
    (front_is c.pop_front-in-Equal-2.ensures.items c.unwrap-in-Equal.ensures)
    c.requires.mine c.requires.theirs (sym c.fronts.ensures ∙ c.in_ok-fronts.was ∙ ap Some c.in-Equal.is)
    c.merge-added.ensures

pub put_child-returns-in-Ok-clause-merged : goal.put_child-returns-in-Ok-clause-merged
put_child-returns-in-Ok-clause-merged t c =
    put_at_found c.deref.ensures.value c.in-Ok.ensures.found c.index_mut-here.ensures.value _ c.args.child refl
    c.requires.children c.merge-result.ensures

pub put_child-returns-in_ok-put_at-in-Err-clause-merged : goal.put_child-returns-in_ok-put_at-in-Err-clause-merged
put_child-returns-in_ok-put_at-in-Err-clause-merged t c =
    put_at_gap c.args.child c.deref.ensures.value c.in-Err.ensures.missing c.in_ok-put_at-in-Err.ensures.items
    c.requires.children c.requires.tree

pub FlameGraph::merge-returns-then-len : goal.FlameGraph::merge-returns-then-len
FlameGraph::merge-returns-then-len t c =
    merged_graph c.self.view_is c.self.invariant c.other.view_is c.other.invariant refl refl c.put_each.ensures.merged

pub put_each-put_child-requires : goal.put_each-put_child-requires
put_each-put_child-requires t c =
    let before = c.loop-theirs.invariant.merged in
    let items = c.pop_front.ensures.items in
    let rows = front_rows _ items c.in-Some.is in
    let fits = front_total _ items c.in-Some.is in
    let tree = (subst AreChildren (front_is items c.in-Some.is) before.theirs).trees.0 in
    let size = c.loop-theirs.invariant.size in (
      omega (arith, c.decreases, rows, before.fewer_rows),
      (before.mine, (size, (tree, omega (arith, before.fits, c.requires.fits, c.requires.size, size, fits)))),
    )

pub put_each-loop-theirs-preserved : goal.put_each-loop-theirs-preserved
put_each-loop-theirs-preserved t c =
    let before = c.loop-theirs.invariant.merged in
    let items = front_is c.pop_front.ensures.items c.in-Some.is in
    record {
      merged = merges_then before
          (subst (λ (l : List Child). MergesFirst (is_ok c.put_child.result) c.loop-theirs.children.items l []
          c.put_child.new.children.items c.pop_front.new.self.items) (sym items)
          (next_put (subst AreChildren items before.theirs) c.put_child.ensures.merged))
          (ap (λ r. is_ok r) c.and-result.ensures ∙ is_ok-and _ _) refl;
      size = c.put_child.ensures.size;
    }

pub put_each-returns-in_default-clause-merged : goal.put_each-returns-in_default-clause-merged
put_each-returns-in_default-clause-merged t c = merges_rest c.loop-theirs.invariant.merged
    (nil_from_length _ (sym c.loop-theirs.theirs.ok.0 ∙ c.in_default.ensures.cases.0))

pub put_each-returns-clause-merged : goal.put_each-returns-clause-merged
put_each-returns-clause-merged t c = rw (c.and.ensures, is_ok-and c.loop-theirs.result c.interleave.result)
    (c.loop-theirs.invariant.merged.goes_on _ _ (rw c.from.ensures.0 at c.interleave.ensures.merged))
