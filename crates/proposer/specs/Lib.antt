pub mod Plans
pub mod Proposing
pub mod Sides
pub mod Refusals
