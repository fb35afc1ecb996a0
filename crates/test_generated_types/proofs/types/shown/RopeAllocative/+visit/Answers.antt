-- Written by bin/implement.
use Rattle.test_generated_types.specs.declared.types.Rope.{out-Rope, Rope-F}
use Rattle.std.proofs.Common.{refl, ◌≡◌}
use Rattle.allocative.proofs.Levels.{means_opened}
use Rattle.allocative.proofs.Meaning.{means_field, means_same, visited_as}
use Rattle.test_generated_types.proofs.types.shown.RopeAllocative.+visit.Goals as goal

variant-Rope : {T0 : _} (x : Rope-F T0) → (a : _) × (x ≡ Rope-F.Of a)
variant-Rope (Rope-F.Of a) = (a, refl)

pub returns : goal.returns
returns t c =
    visited_as c.enter.ensures
    (rw (variant-Rope (out-Rope c.args.self.now)).1
    (means_opened _ _ refl (variant-Rope (out-Rope c.args.self.now)).1
    (means_field refl c.size.ensures means_same)))
