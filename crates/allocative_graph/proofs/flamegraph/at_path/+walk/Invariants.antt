-- of add_at and add_below: how far they still have to go
use Rattle.std.proofs.Common.{◌+◌, ◌*◌, length}
use Rattle.allocative_graph.proofs.flamegraph.at_path.+walk.Given as goal

-- The keys of the path, counted twice.
abbrev pub decreases-add_at : goal.decreases-add_at
decreases-add_at l = 2 * length l.path.now

abbrev pub decreases-add_below : goal.decreases-add_below
decreases-add_below l = 2 * length l.rest.now + 1
