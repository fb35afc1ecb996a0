-- Written by bin/implement.
use Rattle.test_generated_types.specs.contracts.types.shown.EventAllocative.TheImpl.{ghosts}
use Rattle.std.proofs.Common.{refl}
use Rattle.allocative.proofs.ByHand.{visited_at}
use Rattle.allocative.proofs.Meaning.{strict_same, means_field, means_same}
use Rattle.test_generated_types.proofs.types.shown.EventAllocative.visit.Goals as goal

pub returns-in-Quiet : goal.returns-in-Quiet
returns-in-Quiet c =
    visited_at ghosts.may_show c.in-Quiet.is c.enter.ensures strict_same
    (means_field refl refl means_same)

pub returns-in-Note : goal.returns-in-Note
returns-in-Note c =
    visited_at ghosts.may_show c.in-Note.is c.enter-in-Note.ensures strict_same
    (means_field refl refl means_same)

pub returns-in-Marked : goal.returns-in-Marked
returns-in-Marked c =
    visited_at ghosts.may_show c.in-Marked.is c.enter-in-Marked.ensures strict_same
    (means_field refl refl means_same)

pub returns-in-Sale : goal.returns-in-Sale
returns-in-Sale c =
    visited_at ghosts.may_show c.in-Sale.is c.enter-in-Sale.ensures strict_same
    (means_field refl refl (means_field refl c.size.ensures means_same))
