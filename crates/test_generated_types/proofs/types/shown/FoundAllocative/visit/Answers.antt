-- Written by bin/implement.
use Rattle.std.proofs.Common.{refl, rules}
use Rattle.allocative.proofs.Meaning.{means_field, means_same, visited_as}
use Rattle.test_generated_types.proofs.types.shown.FoundAllocative.visit.Goals as goal

pub returns : goal.returns
returns g c =
    visited_as c.enter.ensures
    (means_field refl (search rules) means_same)
