-- of merge, interleave, take_next, put_each and put_child: how far they still have to go, and what the loops keep
use Rattle.std.proofs.Common.{◌≡◌, ◌+◌, ◌*◌, ◌≤◌, [], length, is_ok}
use Rattle.allocative_graph.proofs.Common.{vec_capacity, len, rows_of, total_of, MergesFirst}
use Rattle.allocative_graph.proofs.flamegraph.+merge.Given as goal

-- A graph has more rows than its children.
abbrev pub decreases-FlameGraph::merge : goal.decreases-FlameGraph::merge
decreases-FlameGraph::merge l = 4 * len l.other

abbrev pub decreases-interleave : goal.decreases-interleave
decreases-interleave l = 4 * length (rows_of l.theirs.items) + 2

abbrev pub decreases-take_next : goal.decreases-take_next
decreases-take_next l = 4 * length (rows_of l.theirs.now.items) + 1

abbrev pub decreases-put_child : goal.decreases-put_child
decreases-put_child l = 4 * len l.child.graph + 1

abbrev pub decreases-interleave-loop-child : goal.decreases-interleave-loop-child
decreases-interleave-loop-child l = length l.mine.items + length l.theirs.items

-- What was taken from both lists is merged. The capacity serves what remains.
abbrev pub invariant-interleave-loop-child : goal.invariant-interleave-loop-child
invariant-interleave-loop-child l = record {
  merged : MergesFirst (is_ok l.result) l.fn.children.items l.fn.theirs.items l.children.items l.mine.items
      l.theirs.items;
  size : l.size ≡ total_of l.children.items;
  capacity : length l.fn.children.items + length l.fn.theirs.items ≤ vec_capacity l.children;
}

abbrev pub decreases-put_each : goal.decreases-put_each
decreases-put_each l = 4 * length (rows_of l.theirs.items) + 3

abbrev pub decreases-put_each-loop-theirs : goal.decreases-put_each-loop-theirs
decreases-put_each-loop-theirs l = length l.theirs.items

-- Whatever merges the children that remain merges all.
abbrev pub invariant-put_each-loop-theirs : goal.invariant-put_each-loop-theirs
invariant-put_each-loop-theirs l = record {
  merged : MergesFirst (is_ok l.result) l.fn.children.items l.fn.theirs.items [] l.children.items l.theirs.items;
  size : l.size ≡ total_of l.children.items;
}
