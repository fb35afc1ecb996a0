-- of sorted: the invariant of its loop
use Rattle.std.proofs.Common.{◌≡◌, cond, map, take, filter, All}
use Rattle.allocative_service.specs.Changes.{change_data, is_grown, IsWord}
use Rattle.allocative_service.proofs.history.changes.sorted.Given as goal

-- The list has the changes so far, or those that grew, and the later bytes of each fit a word.
abbrev pub invariant-loop-change : goal.invariant-loop-change
invariant-loop-change l =
    let seen = map change_data (take l.change-index l.changes) in
    record {
      copied : map change_data l.list.items ≡ cond l.only_grown (filter is_grown seen) seen;
      words : All IsWord l.list.items;
    }
