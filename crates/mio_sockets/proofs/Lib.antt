pub mod Driving
pub mod Linking
pub mod Settling
pub mod Each
pub mod Pushing
pub mod Linings
