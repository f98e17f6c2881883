pub mod Apart
pub mod Ranks
pub mod Viewed
