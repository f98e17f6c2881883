pub mod Refused
pub mod People
pub mod Person
pub mod Importing
pub mod Preview
pub mod Waiting
