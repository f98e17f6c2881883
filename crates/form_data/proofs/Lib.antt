pub mod Cuts
pub mod Marks
pub mod PartLemmas
pub mod Words
pub mod WrittenParts
