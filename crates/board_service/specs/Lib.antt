pub mod Shelves
pub mod Services
pub mod Laws
