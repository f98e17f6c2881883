pub mod Archive
pub mod Replayed
pub mod model
