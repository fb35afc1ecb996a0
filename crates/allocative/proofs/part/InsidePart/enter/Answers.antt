-- of InsidePart::enter: the result
use Rattle.allocative.proofs.Meaning.{entered_inline}
use Rattle.allocative.proofs.part.InsidePart.enter.Goals as goal

pub returns : goal.returns
returns g c = entered_inline (rw c.into_key.ensures at c.visit_inside.ensures.entered)
