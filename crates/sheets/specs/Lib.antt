pub mod EditionLaw
pub mod Sheet
pub mod Faults
pub mod Going
pub mod FrameLaw
pub mod ReadingBack
pub mod model
