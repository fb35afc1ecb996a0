mod Accounts
mod Billing
mod Caching
mod Compared
mod Labels
pub mod Texts
mod Walk
