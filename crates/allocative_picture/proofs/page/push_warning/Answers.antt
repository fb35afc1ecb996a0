-- of push_warning: the result
use Rattle.allocative_picture.specs.Picture.{warning_line}
use Rattle.allocative_picture.proofs.page.push_warning.Goals as goal

-- The line of a warning is appended.
pub returns : goal.returns
unfolding warning_line
returns c =
    let line = rw (c.as_str.ensures.value, c.in_ok-push_warning.ensures, c.new-said.ensures.bytes)
    at c.in_ok-line.ensures in
    rw (← line) c.in_ok-write.ensures.bytes
