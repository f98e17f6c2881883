pub mod Found
pub mod Mistakes
pub mod Options
