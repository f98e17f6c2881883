pub mod Frame
pub mod Wall
pub mod Scorecards
pub mod Seating
pub mod Foot
pub mod Lists
pub mod Labels
