pub mod Paths
pub mod Psych
pub mod Pages
