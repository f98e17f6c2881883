pub mod StoredLogs
pub mod model
