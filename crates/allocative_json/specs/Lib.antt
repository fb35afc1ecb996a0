pub mod Fault
pub mod Fields
pub mod Profile
pub mod Roots
pub mod Run
