pub mod Bodies
pub mod Cutting
pub mod Headers
pub mod Written
