-- Models of the code: what its private functions test and return. No public contract cites them.
pub mod Numeral
pub mod Returned
