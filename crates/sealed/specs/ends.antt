pub mod Plain
pub mod ClientStreams
pub mod Given
pub mod Laws
