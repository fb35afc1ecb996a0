-- of fold_keys: the invariant of its loop
use Rattle.std.proofs.Common.{◌≡◌, map, take}
use Rattle.allocative_picture.proofs.Common.{len}
use Rattle.allocative_picture.specs.Views.{folded_child, new_key}
use Rattle.allocative_picture.proofs.views.+fold_keys.Given as goal

-- Each call is for a graph with fewer paths.
abbrev pub decreases-fold_keys : goal.decreases-fold_keys
decreases-fold_keys l = len l.graph.now

-- The children before this one are folded.
abbrev pub invariant-loop-child : goal.invariant-loop-child
invariant-loop-child l = l.below.items ≡ map (folded_child (new_key l.names)) (take l.child-index l.children)
