pub mod Apart
pub mod Replay
pub mod model
