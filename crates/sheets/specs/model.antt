-- Models of the code: what its private functions say of the records and writers of the crate `csv`.
-- No public contract cites them.
pub mod Output
pub mod Shown
