pub mod Stickers
pub mod Turns
pub mod model
pub mod notation
