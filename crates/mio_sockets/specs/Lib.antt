pub mod Wiring
pub mod Calling
pub mod Waiting
pub mod Linking
pub mod Keeping
