-- of TwoSlicesRefSlicePart::enter: the result
use Rattle.std.proofs.Common.{refl}
use Rattle.allocative.proofs.Meaning.{entered_if, strict_both, strict_same}
use Rattle.allocative.proofs.ContainerMeaning.{means_both_cut}
use Rattle.allocative.proofs.part.containers.TwoSlicesRefSlicePart.enter.Goals as goal

pub returns : goal.returns
returns g c = entered_if c.enter.ensures (strict_both strict_same strict_same) (means_both_cut _ _ refl)
