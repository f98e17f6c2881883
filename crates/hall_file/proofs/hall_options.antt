pub mod Building
pub mod Found
