pub mod InTurn
pub mod Printed
