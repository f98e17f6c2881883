pub mod Pauses
pub mod Kept
pub mod Spread
pub mod Quiet
pub mod Ticks
pub mod Rows
pub mod Still
