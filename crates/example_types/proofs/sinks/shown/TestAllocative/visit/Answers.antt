-- Written by bin/implement.
use Rattle.example_types.specs.contracts.sinks.shown.TestAllocative.TheImpl.{ghosts}
use Rattle.std.proofs.Common.{refl}
use Rattle.allocative.proofs.ByHand.{visited_at}
use Rattle.allocative.proofs.Meaning.{strict_same, means_field, means_same}
use Rattle.example_types.proofs.sinks.shown.TestAllocative.visit.Goals as goal

pub returns-in-Above : goal.returns-in-Above
returns-in-Above c =
    visited_at ghosts.may_show c.in-Above.is c.enter.ensures strict_same
    (means_field refl refl means_same)

pub returns-in-Between : goal.returns-in-Between
returns-in-Between c =
    visited_at ghosts.may_show c.in-Between.is c.enter-in-Between.ensures strict_same
    (means_field refl refl (means_field refl c.size.ensures means_same))
