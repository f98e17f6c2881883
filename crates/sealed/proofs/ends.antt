pub mod Fronts
pub mod Going
pub mod Speaking
pub mod Telling
