pub mod Permitting
pub mod LockedConnections
pub mod LockedTurns
pub mod LockedLaw
