pub mod Dialogues
pub mod KeptConnections
pub mod Exchanges
