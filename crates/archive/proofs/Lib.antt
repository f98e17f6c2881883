pub mod Agreeing
pub mod Archived
pub mod Feeds
pub mod Firsts
pub mod Parting
pub mod Replaying
