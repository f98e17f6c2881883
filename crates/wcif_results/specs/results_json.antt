pub mod Entrants
pub mod Meets
pub mod Rounds
pub mod Values
