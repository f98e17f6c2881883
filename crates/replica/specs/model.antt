-- Models of the code. No public contract cites them.
pub mod Planning
