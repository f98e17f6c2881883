pub mod Asked
pub mod FiveFields
pub mod Notes
pub mod SameCards
pub mod Lacking
pub mod Refused
