pub mod Addresses
pub mod Ending
pub mod Over
pub mod Opened
pub mod There
pub mod Periods
pub mod Texts
pub mod Stored
