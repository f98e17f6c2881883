pub mod Fronts
pub mod Told
