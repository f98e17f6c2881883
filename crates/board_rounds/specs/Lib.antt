pub mod Counting
pub mod Rows
pub mod Absent
pub mod Rounds
pub mod Persons
pub mod model
