-- Of the paths so far those that are not of std are copied.
use Rattle.std.proofs.Common.{◌≡◌, map, take, filter, not}
use Rattle.allocative_collectors.proofs.Common.{warning_of, is_std_data}
use Rattle.allocative_collectors.proofs.output.FlameGraphOutput.warned_paths_outside_std.Given as goal

abbrev pub invariant-loop-one : goal.invariant-loop-one
invariant-loop-one l = map warning_of l.paths.items
    ≡ filter (λ w. not (is_std_data w.path)) (map warning_of (take l.one-index l.warned))
