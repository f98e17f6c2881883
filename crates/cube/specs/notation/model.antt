-- Models of the code: functions that proofs step through (the project's own). No public contract
-- cites them.
pub mod Scan
