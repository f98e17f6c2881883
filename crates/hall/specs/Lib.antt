pub mod Scripts
pub mod Texts
pub mod Halls
pub mod model
pub mod world
