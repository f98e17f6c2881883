pub mod Records
pub mod Together
