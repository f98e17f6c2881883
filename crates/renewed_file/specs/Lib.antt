pub mod Asking
pub mod Renewing
