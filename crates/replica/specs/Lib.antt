pub mod Nodes
pub mod Stores
pub mod Lengths
pub mod Handles
pub mod Settles
pub mod Opens
pub mod model
pub mod roles
