-- Models of the code: how its steps come to what the definitions say. No public contract cites
-- them.
pub mod Writing
pub mod Framing
pub mod Gathering
pub mod Pushing
pub mod Calling
pub mod Reaching
pub mod Requests
pub mod Pieces
pub mod Turning
pub mod Sessions
