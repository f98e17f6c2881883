pub mod Centres
pub mod Examples
pub mod Solutions
