-- of keep_all: its recursion ends, and the invariant of its loop
use Rattle.std.proofs.Common.{◌≡◌, [], ◌∷◌, map, take, option_copied}
use Rattle.allocative_picture.proofs.Common.{len, texts}
use Rattle.allocative_picture.specs.Table.{Keeps, growth_in}
use Rattle.allocative_graph.specs.Rows.{rows_of}
use Rattle.allocative_picture.proofs.Growing.{given}
use Rattle.allocative_picture.proofs.table.+keep_all.Given as goal

-- Each call is for a graph with fewer paths.
abbrev pub decreases-keep_all : goal.decreases-keep_all
decreases-keep_all l = len l.graph.now

-- Those that grew most of the root and of the paths of the children before this one are kept.
abbrev pub invariant-loop-child : goal.invariant-loop-child
invariant-loop-child l =
    let grew = growth_in l.size (option_copied l.other) l.graph in record {
      path : l.path.items ≡ l.fn.path.items;
      kept : Keeps l.most ((texts l.fn.path.items, grew [])
          ∷ map (given grew (texts l.fn.path.items)) (rows_of (take l.child-index l.children)))
          l.fn.heaviest l.heaviest;
    }
