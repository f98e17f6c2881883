pub mod Counts
pub mod Telling
pub mod Happenings
pub mod Requests
pub mod sockets
