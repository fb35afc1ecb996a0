-- The closure only returns Err.
use Rattle.std.proofs.Common.{rules}
use Rattle.test_entries.proofs.Deeds.{answers}
use Rattle.test_entries.proofs.deed.DonePart.enter.Goals as goal

pub returns-in-Answer : goal.returns-in-Answer
returns-in-Answer g c = answers _ _ c.visit_field_with.ensures (λ x y h. search rules)
