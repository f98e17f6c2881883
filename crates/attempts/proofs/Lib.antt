pub mod Examples
pub mod MultiBlind
