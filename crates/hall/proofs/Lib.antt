pub mod Spelled
pub mod Printed
pub mod Scripted
pub mod Ran
pub mod Logged
