pub mod Bytes
pub mod Lines
pub mod Reading
pub mod model
pub mod command_file
