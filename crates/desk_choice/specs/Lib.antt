pub mod Files
pub mod Keys
pub mod Printing
pub mod Resolving
pub mod Seeking
