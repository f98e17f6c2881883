pub mod Answers
pub mod Hearing
pub mod Printing
pub mod Standings
pub mod Versions
