pub mod Loading
pub mod Taking
pub mod Finding
