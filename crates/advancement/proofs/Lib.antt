pub mod EachOnce
pub mod Listed
pub mod Through
pub mod Turns
pub mod Whom
