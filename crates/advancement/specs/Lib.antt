pub mod Advancing
pub mod Waiting
pub mod WaitingCases
