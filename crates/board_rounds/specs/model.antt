-- Models of the code: what its private functions say of the round that is shown. No public
-- contract cites them.
pub mod Shown
