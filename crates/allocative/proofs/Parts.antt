-- The lemmas for implementations by parts.
use Rattle.allocative.proofs.Meaning.{visited_as, visited_of_strict, visited_if, entered_loosely, entered_as}
use Rattle.allocative.proofs.Meaning.{visited, entered_refused}
use Rattle.allocative.proofs.Meaning.{strict_always, strict_same, strict_first, strict_second, strict_both, means_inside}
use Rattle.allocative.proofs.Meaning.{means_unique, means_field, means_both, means_shared, means_same}
use Rattle.allocative.proofs.ContainerMeaning.{means_buffer, means_cut, means_index_data, means_table, means_spilled}
use Rattle.allocative.proofs.ContainerMeaning.{means_inline, means_not_set, means_set}
use Rattle.allocative.proofs.Levels.{means_recursive, means_each, means_unordered}

-- What the parts of a container mean.
pub ruleset containers = (means_buffer, means_cut, means_index_data, means_table, means_spilled, means_inline)

-- What the parts of a cell or of a type that holds itself mean.
pub ruleset levels = (means_not_set, means_set, means_recursive, means_each, means_unordered)

-- What the other parts mean.
pub ruleset plain_parts = (means_inside, means_unique, means_field, means_both, means_shared, means_same)

-- The lemmas for an implementation that enters parts.
pub ruleset parts = (visited_as, visited_of_strict, entered_loosely, entered_as, plain_parts, containers, levels)

-- The lemmas for a type with parameters, of which each case is strict if the parts of that case are.
pub ruleset strict = (visited_if, strict_always, strict_same, strict_first, strict_second, strict_both)

-- The lemmas for a visit that also returns a refusal by hand.
pub ruleset refusing = (visited, entered_refused)
