pub mod Firsts
pub mod Helping
pub mod Leasts
pub mod Numbered
pub mod Places
pub mod Reading
