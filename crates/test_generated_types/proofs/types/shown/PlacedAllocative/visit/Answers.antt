-- Written by bin/implement.
use Rattle.std.proofs.Common.{refl, rules}
use Rattle.allocative.proofs.Meaning.{means_field, means_same, visited_if}
use Rattle.allocative.proofs.Parts.{strict}
use Rattle.test_generated_types.proofs.types.shown.PlacedAllocative.visit.Goals as goal

pub returns-in-Nowhere : goal.returns-in-Nowhere
returns-in-Nowhere g c =
    visited_if c.enter.ensures (search (rules, strict))
    (rw c.in-Nowhere.is
    (means_field refl refl means_same))

pub returns-in-Somewhere : goal.returns-in-Somewhere
returns-in-Somewhere g c =
    visited_if c.enter-in-Somewhere.ensures (search (rules, strict))
    (rw c.in-Somewhere.is
    (means_field refl refl (means_field refl (search rules) means_same)))

pub returns-in-Between : goal.returns-in-Between
returns-in-Between g c =
    visited_if c.enter-in-Between.ensures (search (rules, strict))
    (rw c.in-Between.is
    (means_field refl refl (means_field refl c.size-in-Between.ensures means_same)))
