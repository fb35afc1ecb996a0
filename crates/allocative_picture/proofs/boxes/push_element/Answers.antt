-- of push_element: the result
use Rattle.std.proofs.Common.{append_assoc, string_bytes}
use Rattle.allocative_picture.specs.Boxes.{element}
use Rattle.allocative_picture.proofs.boxes.push_element.Goals as goal

-- The element of a box is appended.
pub returns : goal.returns
unfolding element
returns c =
    rw (← c.edge.ensures, ← c.in_ok-key.ensures, c.in_ok-write.ensures.bytes, c.in_ok-push_viewport.ensures)
    (append_assoc (string_bytes c.args.text.now) _ _)
