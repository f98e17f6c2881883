pub mod Arguments
pub mod Printing
