pub mod Files
pub mod Logs
pub mod Results
pub mod Statuses
pub mod model
pub mod imports
