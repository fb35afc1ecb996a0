pub mod Common
pub mod Faults
pub mod Moments
pub mod Sums
