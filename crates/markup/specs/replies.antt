pub mod Tags
pub mod Replies
