pub mod Paths
pub mod Rounds
pub mod Frame
pub mod Looks
pub mod Views
