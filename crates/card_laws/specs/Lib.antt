pub mod Accepting
pub mod GivingBack
pub mod Holding
pub mod OverNothing
pub mod Premises
pub mod Telling
pub mod WorkedCards
pub mod WorkedSaving
