-- of push_heading: the result
use Rattle.allocative_picture.specs.Picture.{heading}
use Rattle.allocative_picture.proofs.page.push_heading.Goals as goal

-- The heading is appended.
pub returns : goal.returns
unfolding heading
returns c = rw (← c.saturating_sub-narrow.ensures, ← c.narrow_hint-hint.ensures) c.in_ok-write.ensures.bytes
