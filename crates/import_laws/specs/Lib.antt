pub mod Competitions
pub mod Spelled
pub mod SetUp
pub mod Held
pub mod Laws
pub mod Worked
