pub mod WorkedHmac
pub mod Tags
pub mod Keys
pub mod BothSides
pub mod Collisions
