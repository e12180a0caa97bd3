pub mod Checks
pub mod Shares
