-- of graph_of_all: the invariant of its loop
use Rattle.std.proofs.Common.{map, take}
use Rattle.allocative_picture_filter.specs.Run.{sourced, AddUp}
use Rattle.allocative_picture_filter.proofs.run.graph_of_all.Given as goal

-- The texts before this one are added.
abbrev pub invariant-loop-text : goal.invariant-loop-text
invariant-loop-text l = AddUp (map sourced (take l.text-index l.texts)) l.graph
