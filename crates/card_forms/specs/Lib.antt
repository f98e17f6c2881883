pub mod Ids
pub mod Pairs
pub mod Cards
pub mod Readings
pub mod Asking
pub mod Remarks
pub mod Entries
pub mod Faults
