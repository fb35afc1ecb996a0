-- Written by bin/implement.
use Rattle.std.proofs.Common.{rules}
use Rattle.allocative_tally.proofs.Fields.{both_count, field_counts, holding, whole_counts}
use Rattle.test_generated_types.proofs.types.shown.TableTallied.tally.Goals as goal

pub returns : goal.returns
returns g c =
    whole_counts _ c.in_ok-declared.ensures (search (rules, holding))
    (both_count c.and.ensures
    (field_counts _ _ _ _ _ _ c.tally-values.ensures)
    (field_counts _ _ _ _ _ _ c.tally-last.ensures))
