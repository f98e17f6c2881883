pub mod Asking
pub mod Begun
pub mod Entering
pub mod Folders
pub mod Places
pub mod Services
pub mod Standings
