-- What is seen of a node (the project's own).
use Rattle.std.specs.Prelude.{ℕ, Bool, List}
use Rattle.learner.specs.Desks.{Desk}

-- what is seen of a desk: its keeper, all that the desk knows, whether a save of it has failed, and
-- how many entries each desk's log has at least, as that desk reported it
pub record NodeValue (K : Type 0) : Type 0 where
  pub keeper : K
  pub desk : Desk
  pub is_down : Bool
  pub told : List ℕ
