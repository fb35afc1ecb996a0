-- Written by bin/implement.
use Rattle.test_generated_types.specs.contracts.received.shown.OriginAllocative.TheImpl.{ghosts}
use Rattle.std.proofs.Common.{refl}
use Rattle.allocative.proofs.ByHand.{visited_at}
use Rattle.allocative.proofs.Meaning.{strict_same, means_field, means_same}
use Rattle.test_generated_types.proofs.received.shown.OriginAllocative.visit.Goals as goal

pub returns-in-Peer : goal.returns-in-Peer
returns-in-Peer c =
    visited_at ghosts.may_show c.in-Peer.is c.enter.ensures strict_same
    (means_field refl refl means_same)

pub returns-in-File : goal.returns-in-File
returns-in-File c =
    visited_at ghosts.may_show c.in-File.is c.enter-in-File.ensures strict_same
    (means_field refl refl (means_field refl c.size.ensures means_same))
