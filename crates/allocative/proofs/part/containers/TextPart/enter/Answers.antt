-- of TextPart::enter: the result
use Rattle.std.proofs.Common.{rules}
use Rattle.allocative.proofs.Meaning.{entered_as}
use Rattle.allocative.proofs.ContainerMeaning.{means_text}
use Rattle.allocative.proofs.part.containers.TextPart.enter.Goals as goal

pub returns : goal.returns
returns c = entered_as c.enter.ensures (means_text (search rules) (search rules) (search rules))
