pub mod Interleaving
pub mod Silence
