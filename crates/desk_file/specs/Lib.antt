pub mod Files
pub mod Marks
pub mod Uses
pub mod stored_log
