pub mod QuarterTurns
pub mod Compositions
pub mod Space
pub mod Solved
pub mod Rearranged
