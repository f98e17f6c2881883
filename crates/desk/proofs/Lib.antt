pub mod Endings
pub mod Few
