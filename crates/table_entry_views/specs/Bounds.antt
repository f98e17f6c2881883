-- Below which a time is asked about (the project's own).
use Rattle.std.specs.Prelude.{ℕ, ◌+◌, ◌*◌, List, Option, None, Some, filter_map}
use Rattle.attempts.specs.declared.Value.{Value}
use Rattle.formats.specs.declared.events.Event.{Event}
use Rattle.formats.specs.declared.events.Event.TheVariants.{Cube3, Cube2, Cube4, Cube5, Cube6}
use Rattle.formats.specs.declared.events.Event.TheVariants.{Cube7, Blind3, FewestMoves, OneHanded}
use Rattle.formats.specs.declared.events.Event.TheVariants.{Clock, Megaminx, Pyraminx, Skewb}
use Rattle.formats.specs.declared.events.Event.TheVariants.{Square1, Blind4, Blind5, MultiBlind}
use Rattle.formats.specs.Results.{best_of, least, number_of}
use Rattle.rounds.specs.Tables.{Table, standings}
use Rattle.table_views.specs.Standing.{values_of}
use Rattle.texts.specs.declared.command.Entered.{Entered, TheVariants.Time}

-- the time of a field, with its penalties, in hundredths of a second
abbrev pub time_of : Option Entered → Option ℕ
time_of (Some (Time hundredths penalties)) = Some (hundredths + 200 * penalties)
time_of _ = None

-- a time in hundredths of a second, clearly below the best single that anybody ever had; 0 where
-- times are not what counts
abbrev pub floor_of : Event → ℕ
floor_of Cube2 = 30
floor_of Cube3 = 250
floor_of Cube4 = 1300
floor_of Cube5 = 2700
floor_of Cube6 = 5000
floor_of Cube7 = 8000
floor_of Blind3 = 1000
floor_of FewestMoves = 0
floor_of OneHanded = 500
floor_of Clock = 130
floor_of Megaminx = 2000
floor_of Pyraminx = 60
floor_of Skewb = 60
floor_of Square1 = 300
floor_of Blind4 = 4500
floor_of Blind5 = 10500
floor_of MultiBlind = 0

-- the best of these attempts, where one is a result
abbrev pub single_of : List Value → Option ℕ
single_of values = number_of (best_of values)

abbrev pub single_in : Table → ℕ → Option ℕ
single_in t number = single_of (values_of t number)

-- the best single that counts in a round, of all who are in it
abbrev pub best_in : Table → Option ℕ
best_in t = least (filter_map (single_in t) (standings t))
