pub mod Listed
pub mod Places
pub mod Warned
pub mod Nodes
