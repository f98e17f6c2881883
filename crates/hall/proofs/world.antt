pub mod Agreeing
pub mod Places
pub mod Happening
