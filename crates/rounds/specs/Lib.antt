pub mod CutoffLaw
pub mod model
pub mod Positions
pub mod Rows
pub mod Tables
