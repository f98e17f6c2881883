pub mod Examples
pub mod Naming
pub mod SameEvent
pub mod Sums
