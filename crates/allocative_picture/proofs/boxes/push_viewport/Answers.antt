-- of push_viewport: the result
use Rattle.allocative_picture.specs.Boxes.{viewport}
use Rattle.allocative_picture.proofs.boxes.push_viewport.Goals as goal

-- The frame of a box is appended.
pub returns : goal.returns
unfolding viewport
returns c = rw (← c.width-units.ensures, ← c.edge.ensures, ← c.fit-fit.ensures) c.in_ok-write.ensures.bytes
