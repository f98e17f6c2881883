pub mod Lists
pub mod Fronts
pub mod Greeting
pub mod Idling
pub mod Keeping
pub mod Holding
pub mod Guarded
pub mod Delivering
