pub mod LinkCalls
pub mod Asked
pub mod Followed
pub mod Told
pub mod ChangedRecords
pub mod Halls
pub mod OneResult
