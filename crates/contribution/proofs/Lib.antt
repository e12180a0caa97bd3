pub mod Walks
pub mod Bounds
pub mod Tallies
pub mod Integers
pub mod Assessing
pub mod Reliance
