-- of gather: what its loop keeps
use Rattle.std.proofs.Common.{◌≡◌, length}
use Rattle.allocative_graph.proofs.Common.{default, sum_of_all}
use Rattle.allocative_graph.proofs.flamegraph.gather.Given as goal

-- Adding the children that wait to the graph gives the graph of all.
abbrev pub invariant-loop-child : goal.invariant-loop-child
invariant-loop-child l = sum_of_all l.graph l.waiting.items ≡ sum_of_all default l.initial.waiting.items

abbrev pub decreases-loop-child : goal.decreases-loop-child
decreases-loop-child l = length l.waiting.items
