-- Models of the code: what it keeps beside the accepted commands, for proofs to step through. No
-- public contract cites them.
pub mod Cards
pub mod Kept
pub mod Settled
pub mod Solved
