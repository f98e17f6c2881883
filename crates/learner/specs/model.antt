-- Models of the code: what the parts of a value keep to. No public contract cites them.
pub mod Indexes
