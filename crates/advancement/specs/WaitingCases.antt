-- Worked cases of who waits for a place, and of who takes it.
use Rattle.std.specs.Prelude.{◌≡◌, ℕ, true, List, [], ◌∷◌, map, None, Some}
use Rattle.attempts.specs.declared.{Value.Value, Unit.TheVariants.Time}
use Rattle.attempts.specs.declared.Value.TheVariants.{Number, Dnf, Dns}
use Rattle.formats.specs.declared.{events.Format.TheVariants.Bo1, advance.Advance.TheVariants.Top}
use Rattle.rounds.specs.Tables.{Entrant, Table}
use Rattle.advancement.specs.{Advancing.advancing, Waiting.waiting, Waiting.next_of}

abbrev pub entrant_with : ℕ × Value → Entrant
entrant_with line = record { number = line.0; values = line.1 ∷ [] }

-- a round of one attempt each that is closed, with these entrants in order of entry
abbrev pub closed_round : List (ℕ × Value) → Table
closed_round lines =
    record {
      format = Bo1;
      unit = Time;
      cutoff = None;
      is_closed = true;
      entrants = map entrant_with lines;
    }

-- of five the best advances; who has a number waits, the better one first, whatever the order of
-- entry
abbrev pub five : Table
five =
    closed_round ((1, Number 1300) ∷ (2, Number 1000) ∷ (3, Dnf) ∷ (4, Number 1200) ∷ (5, Dns) ∷ [])

-- 3 and 4 are tied over the border of two places: they stay out together, and wait in the order of
-- their entry
abbrev pub tied : Table
tied = closed_round ((4, Number 1100) ∷ (1, Number 1000) ∷ (3, Number 1100) ∷ (2, Number 1200) ∷ [])

-- all who have a number advance
abbrev pub few_numbers : Table
few_numbers = closed_round ((1, Number 1000) ∷ (2, Dnf) ∷ (3, Dnf) ∷ [])

pub record IsWorked : Type 0 where
  pub goes_on : advancing five (Top 1) ≡ 2 ∷ []
  pub wait : waiting five (Top 1) ≡ 4 ∷ 1 ∷ []
  pub tied_go_on : advancing tied (Top 2) ≡ 1 ∷ []
  pub tied_wait : waiting tied (Top 2) ≡ 4 ∷ 3 ∷ 2 ∷ []
  pub nobody_waits : waiting few_numbers (Top 2) ≡ []
  -- the first who withdraws gives the place to 4, the second to 1, and a third to nobody
  pub first : next_of (4 ∷ 1 ∷ []) [] ≡ Some 4
  pub second : next_of (4 ∷ 1 ∷ []) (4 ∷ []) ≡ Some 1
  pub third : next_of (4 ∷ 1 ∷ []) (4 ∷ 1 ∷ []) ≡ None
