-- Written by bin/implement.
use Rattle.test_generated_types.specs.declared.types.Cart.{Cart}
use Rattle.test_generated_types.specs.declared.types.Cart.TheVariants.{BoughtItems}
use Rattle.std.proofs.Common.{refl, ◌≡◌}
use Rattle.allocative.proofs.Meaning.{means_field, means_same, visited_as}
use Rattle.test_generated_types.proofs.types.shown.CartAllocative.visit.Goals as goal

variant-Cart : (x : Cart) → (a : _) × (x ≡ BoughtItems a)
variant-Cart (BoughtItems a) = (a, refl)

pub returns : goal.returns
returns c =
    visited_as c.enter.ensures
    (rw (variant-Cart c.args.self.now).1
    (means_field refl refl (means_field refl c.size.ensures means_same)))
