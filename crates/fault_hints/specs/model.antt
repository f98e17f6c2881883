-- Models of the code: steps that proofs go through. No public contract cites them.
pub mod Files
