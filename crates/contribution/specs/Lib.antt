pub mod Refusals
pub mod Isins
pub mod Sides
pub mod Checks
pub mod Steps
pub mod Positions
pub mod Contribution
pub mod Laws
