pub mod Ending
pub mod Unnamed
