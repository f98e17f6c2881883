pub mod Arguments
pub mod Asking
pub mod Laws
pub mod Tables
