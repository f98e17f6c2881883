pub mod Alike
pub mod Found
pub mod Tables
pub mod Whose
pub mod Words
