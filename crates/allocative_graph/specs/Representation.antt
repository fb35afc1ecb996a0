-- What stands behind keys, graphs and collectors in memory. No clause of a public call cites it.
pub mod Codes
pub mod NodeRows
pub mod Children
