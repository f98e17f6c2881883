pub mod Links
pub mod Histories
pub mod Outages
pub mod Tellings
pub mod Reaching
