pub mod Colons
pub mod Places
pub mod Texts
pub mod Got
pub mod Desks
pub mod Printed
pub mod Choices
