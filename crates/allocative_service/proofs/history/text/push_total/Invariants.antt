-- of push_total: the invariant of its loop
use Rattle.std.proofs.Common.{◌≡◌, ◌*◌, ◌^◌, ◌≤◌, map, take, sum_by}
use Rattle.allocative_service.specs.Changes.{change_data, growth, shrinkage}
use Rattle.allocative_service.proofs.history.text.push_total.Given as goal

-- The bytes of the changes so far are added up. Each change has less than a word.
abbrev pub invariant-loop-change : goal.invariant-loop-change
invariant-loop-change l = record {
  more : l.more ≡ sum_by growth (map change_data (take l.change-index l.changes));
  less : l.less ≡ sum_by shrinkage (map change_data (take l.change-index l.changes));
  more_fits : l.more ≤ l.change-index * 2 ^ 64;
  less_fits : l.less ≤ l.change-index * 2 ^ 64;
}
