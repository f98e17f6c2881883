pub mod Choices
pub mod Turns
pub mod Lines
pub mod Telling
pub mod Kept
pub mod Outcomes
pub mod Waiting
