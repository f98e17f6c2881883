-- The best single of a round's entrants, by the file (the project's own).
use Rattle.std.specs.Prelude.{ℕ, Bool, is_some, if◌then◌else◌, List, Option, None, Some}
use Rattle.std.specs.Prelude.{filter_map, min}
use Rattle.std.specs.Option.{option_and_then}
use Rattle.serde_json.specs.Data.{Data}
use Rattle.formats.specs.{declared.events.Event.Event, Results.least}
use Rattle.rounds.specs.Tables.{Table, entrant}
use Rattle.competition_file.specs.{Bests.best_of, Numbers.list_number}
use Rattle.competition_file.specs.declared.bests.ResultKind.TheVariants.{Single}

abbrev pub is_in_field : Table → Data → Bool
is_in_field t p = is_some (option_and_then (entrant t) (list_number p))

abbrev pub single_in_field : Event → Table → Data → Option ℕ
single_in_field e t p = if is_in_field t p then best_of e Single p else None

-- the least best single of the persons whose numbers are entered in a round
abbrev pub field_best : Event → Table → List Data → Option ℕ
field_best e t ps = least (filter_map (single_in_field e t) ps)

-- the lesser of two numbers, of those that are there
abbrev pub lesser : Option ℕ → Option ℕ → Option ℕ
lesser None other = other
lesser (Some n) None = Some n
lesser (Some n) (Some m) = Some (min n m)
