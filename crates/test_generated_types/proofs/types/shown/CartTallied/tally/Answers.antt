-- Written by bin/implement.
use Rattle.test_generated_types.specs.declared.types.Cart.{Cart}
use Rattle.test_generated_types.specs.declared.types.Cart.TheVariants.{BoughtItems}
use Rattle.std.proofs.Common.{arith, refl, ◌≡◌}
use Rattle.allocative_tally.proofs.Fields.{case_counted, field_counts, next_as, next_case, told_then}
use Rattle.allocative_tally.proofs.Sizes.{holds_bytes}
use Rattle.allocative_tally.specs.Whole.{as_itself}
use Rattle.test_generated_types.proofs.types.shown.CartTallied.tally.Goals as goal

variant-Cart : (x : Cart) → (a : _) × (x ≡ BoughtItems a)
variant-Cart (BoughtItems a) = (a, refl)

pub returns : goal.returns
returns c =
    (told_then (field_counts _ _ _ _ _ _ c.tally-names.ensures)
    (λ told. next_as (rw (variant-Cart c.args.self.now).1 as_itself)
    (next_case c.in_ok-declared.ensures
    (case_counted c.in_ok-declared-2.ensures (omega arith)
    told
    (holds_bytes (omega arith)))
    (holds_bytes (omega arith))))).told
