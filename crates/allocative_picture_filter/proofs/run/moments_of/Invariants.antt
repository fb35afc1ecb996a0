-- of moments_of: the invariant of its loop
use Rattle.std.proofs.Common.{map, take}
use Rattle.std.specs.List.{AllZip}
use Rattle.allocative_picture_filter.specs.Run.{sourced, IsMomentOf}
use Rattle.allocative_picture_filter.proofs.run.moments_of.Given as goal

-- The texts before this one have their moments.
abbrev pub invariant-loop-text : goal.invariant-loop-text
invariant-loop-text l = AllZip (IsMomentOf l.asked) (map sourced (take l.text-index l.texts)) l.moments.items
