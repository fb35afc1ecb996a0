-- The items in an allocation, and the items in place.
use Rattle.std.proofs.Common.{refl, rules}
use Rattle.allocative.proofs.Meaning.{visited_as, means_field, means_same}
use Rattle.allocative.proofs.ContainerMeaning.{means_spilled, means_inline}
use Rattle.allocative.proofs.impls.crate_impls.SmallVecAllocative.visit.Goals as goal

pub returns-then-spilled : goal.returns-then-spilled
returns-then-spilled g c =
    visited_as c.enter.ensures (means_field refl refl
    (means_spilled (search rules) (search rules) (rw c.as_slice.ensures means_same)))

pub returns-else-spilled : goal.returns-else-spilled
returns-else-spilled g c =
    visited_as c.enter-else-spilled.ensures (means_field refl refl
    (means_inline (search rules) (rw c.as_slice.ensures means_same)))
