pub mod Overlaps
pub mod Holding
pub mod Fronts
