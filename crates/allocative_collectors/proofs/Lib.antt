pub mod Common
pub mod Arena
pub mod NodeReads
pub mod Collect
pub mod Chunks
