-- Models of the code: steps that proofs go through (the project's own). No public contract cites
-- them.
pub mod Back
pub mod Kept
