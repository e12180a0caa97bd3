pub mod Refusals
pub mod Balances
pub mod Lists
pub mod Openings
pub mod Table
pub mod Entries
pub mod Comparing
