pub mod Looks
pub mod Order
pub mod Spots
pub mod Schedule
pub mod Today
