-- of push_changes: its recursion ends, the invariant of its loop, and its loop ends
use Rattle.std.proofs.Common.{◌≡◌, ◌+◌, ◌≤◌, ◌++◌, List, length, map}
use Rattle.std.specs.FinMap.{len}
use Rattle.allocative.specs.Rows.{rows_of}
use Rattle.allocative_service.specs.Changes.{change_data, Changed}
use Rattle.allocative_service.proofs.Walk.{Walks}
use Rattle.allocative_service.proofs.history.walk.+push_changes.Given as goal

abbrev pub decreases-push_changes : goal.decreases-push_changes
decreases-push_changes l = len l.earlier.now + len l.later.now

-- The changes of the children that were taken are there.
abbrev pub invariant-loop-key : goal.invariant-loop-key
invariant-loop-key l = record {
  made : List Changed;
  walk : Walks (map (λ k. k.now) l.initial.path.items) l.initial.mine l.initial.theirs made l.mine l.theirs;
  changes : map change_data l.changes.items ≡ map change_data l.initial.changes.items ++ made;
  path : l.path.items ≡ l.initial.path.items;
  fewer : length (rows_of l.mine) + length (rows_of l.theirs)
      ≤ length (rows_of l.initial.mine) + length (rows_of l.initial.theirs);
}

abbrev pub decreases-loop-key : goal.decreases-loop-key
decreases-loop-key l = length l.mine + length l.theirs
