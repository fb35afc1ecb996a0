pub mod Differential
pub mod Fault
pub mod Run
