pub mod Common
pub mod Making
pub mod Closures
pub mod Runs
pub mod Strict
pub mod Visits
pub mod Meaning
pub mod ContainerMeaning
pub mod Showing
pub mod Levels
pub mod Parts
pub mod Roots
pub mod Lent
pub mod Entering
pub mod ByHand
-- Lemmas of the crate below about graphs and their text are exported again.
pub use Rattle.allocative_graph.proofs.Basics
pub use Rattle.allocative_graph.proofs.Sums
pub use Rattle.allocative_graph.proofs.Showings
pub use Rattle.allocative_graph.proofs.Text as WrittenText
