-- Models of the code: how its steps come to what the definitions say. Of them the public contracts
-- cite `Does` alone, for one step.
pub mod Scenes
pub mod Tables
pub mod Ticks
pub mod Visiting
pub mod Asking
