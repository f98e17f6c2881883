pub mod Arguments
pub mod Asking
