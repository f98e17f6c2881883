pub mod Ticking
pub mod Laws
pub mod Worked
