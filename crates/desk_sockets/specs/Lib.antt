pub mod Answering
pub mod Troubles
pub mod Keying
pub mod Connections
pub mod Wires
pub mod Asking
pub mod Endings
pub mod Said
