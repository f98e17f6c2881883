pub mod Down
pub mod Ordered
