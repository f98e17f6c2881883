pub mod Adding
pub mod Depths
pub mod Left
pub mod MeaningTokens
