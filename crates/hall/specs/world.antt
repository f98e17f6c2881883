pub mod WorldValues
pub mod Headline
pub mod model
