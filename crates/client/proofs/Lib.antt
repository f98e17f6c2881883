pub mod Heard
pub mod InVersion
