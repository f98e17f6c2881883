pub mod Following
pub mod Histories
pub mod Laws
