-- of draw_wide: the result
use Rattle.allocative_picture.specs.Picture.{drawing_of}
use Rattle.allocative_picture.proofs.picture.draw_wide.Goals as goal

-- The parts of the drawing are appended in order.
pub returns : goal.returns
unfolding drawing_of
returns c =
    rw (
      c.in_ok-push_str.ensures.bytes,
      c.in_ok-push_content.ensures,
      c.in_ok-push_opening.ensures,
      c.as_str-title.ensures.value,
      c.in_ok-title.ensures,
      c.new-text.ensures.bytes,
      c.height_of-height.ensures.height,
    )
