pub mod Tokens
pub mod Notation
pub mod model
