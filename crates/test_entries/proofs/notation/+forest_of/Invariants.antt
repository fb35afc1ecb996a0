-- The number of entries that are left.
use Rattle.std.proofs.Common.{length}
use Rattle.test_entries.proofs.notation.+forest_of.Given as goal

abbrev pub decreases-forest_of : goal.decreases-forest_of
decreases-forest_of l = length l.entries.now
