pub mod Keys
pub mod key_file
