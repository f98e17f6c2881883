pub mod UnderKeys
pub mod LoopRuns
pub mod Ways
pub mod FullLinks
pub mod Example
pub mod Questions
