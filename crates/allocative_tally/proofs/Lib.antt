pub mod Merging
pub mod Shown
pub mod Sizes
pub mod Counting
pub mod Entering
pub mod Fields
pub mod Items
-- The answers import the lemmas from here, and what most of them cite besides.
pub use Shown.*
pub use Sizes.*
pub use Counting.*
pub use Entering.*
pub use Fields.*
pub use Items.*
pub use Rattle.std.proofs.Common.{arith, rules, refl, codes, length, sym, ap, true, false, Some}
pub use Rattle.std.proofs.Common.{◌≡◌, ◌∙◌, ◌+◌, ◌-◌}
pub use Rattle.std.proofs.lemmas.{Iterator.YieldsList-from_slice, Iterator.Consumers.YieldsList-from_rest}
pub use Rattle.allocative_tally.specs.{Narrow, Wide, Unique, as_itself}
