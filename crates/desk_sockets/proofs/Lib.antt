pub mod Answering
pub mod Reaching
pub mod Driving
pub mod Ending
pub mod Reading
