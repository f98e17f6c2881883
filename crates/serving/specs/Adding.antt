-- What a receiver of pushed frames was handed, where it tells it (the project's own).
use Rattle.std.specs.Prelude.{◌≡◌, ℕ, List, ◌++◌, Option, None, Some, ⊤}

-- a frame, as bytes, and the desk to which it goes
pub record Push : Type 0 where
  pub to : ℕ
  pub bytes : List ℕ

-- what was handed over grows by these, in order; a receiver may stop telling, as one that keeps the
-- frames does for want of memory, and never begins
abbrev pub Hands : Option (List Push) → Option (List Push) → List Push → Type 0
Hands None None more = ⊤
Hands (Some xs) None more = ⊤
Hands None (Some ys) more = ⊥
Hands (Some xs) (Some ys) more = ys ≡ xs ++ more
