pub mod Tokens
pub mod Outcomes
pub mod Agendas
pub mod Streams
pub mod Sockets
pub mod Mixing
