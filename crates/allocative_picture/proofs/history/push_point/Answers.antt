-- of push_point: the result
use Rattle.allocative_picture.specs.History.{point}
use Rattle.allocative_picture.proofs.history.push_point.Goals as goal

-- The point is appended.
pub returns : goal.returns
unfolding point
returns c =
    rw (← c.in_ok-name.ensures, ← c.total_size-bytes.ensures.total, ← c.y-y.ensures, ← c.x-x.ensures)
    c.in_ok-write.ensures.bytes
