-- Models of the code: what the desks of a hall are as they run (the project's own). No contract of
-- `World` cites them.
pub mod Halls
