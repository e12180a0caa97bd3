pub mod Opened
pub mod Moved
pub mod Tables
pub mod Booked
pub mod Alikes
pub mod Lists
