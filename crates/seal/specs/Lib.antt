pub mod Hmac
pub mod Records
pub mod Streams
pub mod model
pub mod Sealing
pub mod Laws
