pub mod Telling
pub mod Hearing
pub mod Connected
pub mod Colliding
