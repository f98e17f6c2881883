pub mod Applied
pub mod Parted
