-- of grown: its recursion ends, and the invariant of its loop
use Rattle.std.proofs.Common.{◌≡◌, ◌+◌, ◌≤◌, [], map, take, option_copied}
use Rattle.allocative_picture.proofs.Common.{len, size_at, total_of}
use Rattle.allocative_picture.proofs.Placing.{bytes_of}
use Rattle.allocative_picture.specs.declared.table.Size.TheVariants.{Own}
use Rattle.allocative_picture.specs.Table.{growth_in}
use Rattle.allocative_graph.specs.Rows.{rows_of}
use Rattle.allocative_picture.proofs.Growing.{given}
use Rattle.allocative_picture.proofs.table.+grown.Given as goal

-- Each call is for a graph with fewer paths.
abbrev pub decreases-grown : goal.decreases-grown
decreases-grown l = len l.graph.now

-- By so much grew the root and the paths of the children before this one.
abbrev pub invariant-loop-child : goal.invariant-loop-child
invariant-loop-child l =
    let grew = growth_in Own (option_copied l.other) l.graph in record {
      sum : l.bytes ≡ grew [] + bytes_of (map (given grew []) (rows_of (take l.child-index l.children)));
      bound : l.bytes ≤ size_at l.graph [] + total_of (take l.child-index l.children);
    }
