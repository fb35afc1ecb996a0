-- of graph_of_warned: the invariant of its loop
use Rattle.std.proofs.Common.{◌≡◌, take}
use Rattle.allocative_picture.proofs.Common.{total}
use Rattle.allocative_picture.proofs.Marking.{bytes_at}
use Rattle.allocative_picture.proofs.frames.graph_of_warned.Given as goal

-- Each path has a byte for each of its warnings so far, and there are as many bytes as warnings.
abbrev pub invariant-loop-one : goal.invariant-loop-one
invariant-loop-one l =
    record { graph : l.graph ≡ bytes_at (take l.one-index l.warned); bytes : total l.graph ≡ l.one-index }
