pub mod Standings
pub mod AsText
pub mod AsJson
pub mod Reports
pub mod Written
