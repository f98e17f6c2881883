pub mod Addresses
pub mod Files
pub mod Keys
pub mod Printing
pub mod Serves
