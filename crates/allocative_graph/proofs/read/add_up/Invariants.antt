-- of add_up: what its loop keeps
use Rattle.std.proofs.Common.{◌≡◌, map, take}
use Rattle.allocative_graph.proofs.Common.{default, sum_of_stacks, line_stack}
use Rattle.allocative_graph.proofs.read.add_up.Given as goal

-- The lines before this one are added.
abbrev pub invariant-loop-line : goal.invariant-loop-line
invariant-loop-line l = l.graph ≡ sum_of_stacks default (map line_stack (take l.line-index l.lines))
