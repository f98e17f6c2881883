pub mod Judged
pub mod Looking
pub mod Sentences
pub mod model
