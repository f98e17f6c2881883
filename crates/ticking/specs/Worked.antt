-- A ticker, worked by hand: of desk 2 of 3, with a period of a second. So a slot has 333
-- milliseconds, and the first pause 1333. The log has 5 entries at the beginning.
use Rattle.std.specs.Prelude.{◌≡◌, Bool, true, false, List, [], ◌∷◌}
use Rattle.ticking.specs.Ticking.{Ticking, Look, look, new_ticker, is_due, after}
use Rattle.ticking.specs.Laws.{IsReached, NothingHappens}

abbrev pub worked : Ticking
worked = new_ticker 1000 2 3 5 0

-- at which of these looks a Tick is taken
abbrev pub taken : Ticking → List Look → List Bool
taken t [] = []
taken t (l ∷ ls) = is_due t l ∷ taken (after t l) ls

-- A command comes at 400, and a Tick is due at 1733. The pause after it is twice as long. At 5000
-- the log has grown, and the next Tick is due at 6333. Then the queue is empty: the pause is ten
-- first pauses.
abbrev pub worked_looks : List Look
worked_looks =
    look 5 0 399 ∷ look 5 1 400 ∷ look 5 1 1732 ∷ look 5 1 1733 ∷ look 5 1 4398 ∷ look 5 1 4399
    ∷ look 6 1 5000 ∷ look 6 1 6332 ∷ look 6 1 6333 ∷ look 6 0 19662 ∷ look 6 0 19663 ∷ []

abbrev pub worked_ticks : List Bool
worked_ticks =
    false ∷ false ∷ false ∷ true ∷ false ∷ true
    ∷ false ∷ false ∷ true ∷ false ∷ true ∷ []

-- it is a ticker as one is made, and nothing happens from 400 to 21728, which is 16 first pauses
pub record WorksTicker : Type 0 where
  pub ticks : taken worked worked_looks ≡ worked_ticks
  pub made : IsReached worked
  pub still : NothingHappens worked 5 (look 5 1 400) (look 5 1 1732 ∷ []) (look 5 1 21728)
