-- of push_growth_line: the result
use Rattle.std.proofs.Common.{append_assoc}
use Rattle.allocative_picture.proofs.table.push_growth_line.Goals as goal

-- The line is appended.
pub returns : goal.returns
unfolding lib.Utf8.encode
returns c = rw (← c.as_slice-path.ensures.value, ← c.of-was.ensures, ← c.of-is.ensures)
    (rw (c.in_ok-push.ensures.bytes, c.in_ok-push_path.ensures, c.in_ok-push_growth.ensures) (simp append_assoc))
