pub mod Found
pub mod Sought
