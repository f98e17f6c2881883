pub mod Told
pub mod Waits
