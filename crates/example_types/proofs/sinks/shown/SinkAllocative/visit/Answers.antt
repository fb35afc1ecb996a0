-- Written by bin/implement.
use Rattle.example_types.specs.contracts.sinks.shown.SinkAllocative.TheImpl.{ghosts}
use Rattle.std.proofs.Common.{refl}
use Rattle.allocative.proofs.ByHand.{visited_at}
use Rattle.allocative.proofs.Meaning.{strict_same, means_field, means_same}
use Rattle.example_types.proofs.sinks.shown.SinkAllocative.visit.Goals as goal

pub returns-in-Sum : goal.returns-in-Sum
returns-in-Sum c =
    visited_at ghosts.may_show c.in-Sum.is c.enter.ensures strict_same
    (means_field refl refl means_same)

pub returns-in-All : goal.returns-in-All
returns-in-All c =
    visited_at ghosts.may_show c.in-All.is c.enter-in-All.ensures strict_same
    (means_field refl refl means_same)
