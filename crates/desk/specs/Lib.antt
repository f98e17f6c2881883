pub mod Keys
pub mod Statuses
