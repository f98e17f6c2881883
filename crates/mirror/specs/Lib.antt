pub mod Mirrors
pub mod Fronts
