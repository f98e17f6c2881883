pub mod Joined
pub mod Words
pub mod Scanning
pub mod Steps
