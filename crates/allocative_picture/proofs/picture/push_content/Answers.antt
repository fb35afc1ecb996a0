-- of push_content: the result
use Rattle.std.proofs.Common.{append_assoc}
use Rattle.allocative_picture.proofs.Common.{length-map}
use Rattle.allocative_picture.specs.Picture.{content_of}
use Rattle.allocative_picture.proofs.picture.push_content.Goals as goal

-- The parts of the content are appended in order.
pub returns : goal.returns
unfolding content_of
returns c =
    rw (
      c.in_ok-push_warnings.ensures,
      c.in_ok-push_boxes.ensures,
      c.in_ok-push_str.ensures.bytes,
      c.in_ok-push_heading.ensures,
      c.bottom.ensures.bottom,
      c.legend.ensures.text,
      c.all.ensures,
      c.as_str-unit.ensures.value,
      c.in_ok-unit.ensures,
      length-map,
    )
    (simp append_assoc)
