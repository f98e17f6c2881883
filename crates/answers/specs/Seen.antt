-- What is seen of a desk by the code that serves it (the project's own).
use Rattle.std.specs.Prelude.{ℕ, Bool, not, List}
use Rattle.learner.specs.Desks.{Desk}

-- all that the desk knows, whether its store has failed, and how many entries each desk's log has
-- at least, as that desk reported it
pub record Seen : Type 0 where
  pub desk : Desk
  pub is_down : Bool
  pub told : List ℕ

-- after a settling: where that failed, so has the store
abbrev pub settled : Bool → Seen → Seen
settled ok x = record x { is_down = not ok }
