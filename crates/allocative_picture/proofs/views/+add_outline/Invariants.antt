-- of add_outline: its recursion ends, and the invariant of its loop
use Rattle.std.proofs.Common.{◌≡◌, ◌<◌, ◌-◌, ◌^◌, ◌++◌, All, List, [], length}
use Rattle.allocative_picture.proofs.Common.{Child, Graph, InOrder, default, len, size_at, sum_of_all}
use Rattle.allocative_picture.proofs.Guiding.{AreLeft}
use Rattle.allocative_picture.specs.Views.{bytes_alone, GuidesChild, InStep, IsOutline}
use Rattle.allocative_picture.proofs.views.+add_outline.Given as goal

-- Each call is for paths with a key less.
abbrev pub decreases-add_outline : goal.decreases-add_outline
decreases-add_outline l = l.depth

abbrev pub decreases-loop-below : goal.decreases-loop-below
decreases-loop-below l = length l.level.value.waiting.items

-- The children that do not wait are outlined and added; if nothing is cut or folded, they are added as they are. The
-- guides of the others are left.
abbrev pub invariant-loop-below : goal.invariant-loop-below
invariant-loop-below l = record {
  empty : l.below ≡ default;
  order : InOrder l.level.value.waiting.items;
  smaller : All (λ c. len c.graph < len l.fn.both.value.graph) l.level.value.waiting.items;
  left : AreLeft l.initial.level.value.guides.items l.level.value.guides.items l.level.value.waiting.items;
  outlined : (done : List Child) × (ds : List Child)
      × (l.initial.level.value.waiting.items ≡ done ++ l.level.value.waiting.items)
      × InStep (λ c o. (x : Graph) × GuidesChild l.fn.both.value.guide c x
      × IsOutline l.rest l.most x c.graph o) done ds
      × (l.view ≡ sum_of_all (bytes_alone (size_at l.fn.both.value.graph [])) ds)
      × (len l.fn.both.value.graph < l.depth → l.most ≡ 2 ^ 64 - 1 →
      l.view ≡ sum_of_all (bytes_alone (size_at l.fn.both.value.graph [])) done);
}
