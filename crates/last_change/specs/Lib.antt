pub mod Changes
pub mod Entering
