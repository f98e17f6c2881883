pub mod Bits
pub mod Whole
pub mod Placed
pub mod Ending
pub mod Reading
pub mod Feeding
pub mod Differing
