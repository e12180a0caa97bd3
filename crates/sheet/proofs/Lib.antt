pub mod Items
pub mod Asked
pub mod Printed
pub mod Heads
pub mod Filed
