-- of add_all: its recursion ends, and the invariant of its loop
use Rattle.std.proofs.Common.{◌≡◌, [], ◌∷◌, take}
use Rattle.allocative_picture.proofs.Common.{len, size_at, texts}
use Rattle.allocative_graph.specs.Rows.{rows_of}
use Rattle.allocative_picture.specs.Views.{all_of, viewed}
use Rattle.allocative_picture.specs.Table.{behind}
use Rattle.allocative_picture.proofs.views.+add_all.Given as goal

-- Each call is for a graph with fewer paths.
abbrev pub decreases-add_all : goal.decreases-add_all
decreases-add_all l = len l.graph.now

-- What the view has of the root and of the children before this one is added.
abbrev pub invariant-loop-child : goal.invariant-loop-child
invariant-loop-child l = record {
  path : l.path.items ≡ l.fn.path.items;
  all : all_of l.gathered ≡ viewed l.view (all_of l.fn.gathered) ((texts l.fn.path.items, size_at l.graph [])
      ∷ behind (texts l.fn.path.items) (rows_of (take l.child-index l.children)));
}
