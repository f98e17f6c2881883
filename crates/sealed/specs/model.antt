-- Models of the code: what its functions return and leave, step by step. No public contract cites
-- them.
pub mod Steps
pub mod Opening
