-- of push_keys: its recursion ends
use Rattle.std.proofs.Common.{length}
use Rattle.allocative_graph.proofs.flamegraph.+push_keys.Given as goal

-- Each call is for one key less.
abbrev pub decreases-push_keys : goal.decreases-push_keys
decreases-push_keys l = length l.keys.now
