pub mod Refusals
pub mod Fields
pub mod Lines
pub mod Days
pub mod Letters
pub mod Desks
pub mod Files
