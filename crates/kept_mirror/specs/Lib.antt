pub mod Histories
pub mod Mirrorings
