pub mod Adding
pub mod Escaped
