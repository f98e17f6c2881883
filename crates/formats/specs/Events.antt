-- Events and formats: their names and numbers, and which format an event may have. The events and
-- the kinds of formats are those of the WCA Regulations, article 9b; the numbers, and the table of
-- the formats of each event, are the project's own.
use Rattle.std.specs.Prelude.{ℕ, Bool, true, false, ◌==◌, List, [], ◌∷◌, ◌++◌, codes, bytes_eq}
use Rattle.std.specs.Prelude.{find, Option}
use Rattle.attempts.specs.declared.Unit.{Unit as Measure}
use Rattle.attempts.specs.declared.Unit.TheVariants.{Time, Moves, Multi}
use Rattle.formats.specs.declared.events.{Event.Event, Format.Format}
use Rattle.formats.specs.declared.events.Event.TheVariants.{Cube3, Cube2, Cube4, Cube5, Cube6}
use Rattle.formats.specs.declared.events.Event.TheVariants.{Cube7, Blind3, FewestMoves, OneHanded}
use Rattle.formats.specs.declared.events.Event.TheVariants.{Clock, Megaminx, Pyraminx, Skewb}
use Rattle.formats.specs.declared.events.Event.TheVariants.{Square1, Blind4, Blind5, MultiBlind}
use Rattle.formats.specs.declared.events.Format.TheVariants.{Ao5, Mo3, Bo1, Bo2, Bo3}

-- the events of edition 1, in the order of their numbers
abbrev pub events : List Event
events = Cube3 ∷ Cube2 ∷ Cube4 ∷ Cube5 ∷ Cube6 ∷ Cube7 ∷ Blind3 ∷ FewestMoves ∷ OneHanded ∷ Clock ∷
    Megaminx ∷ Pyraminx ∷ Skewb ∷ Square1 ∷ Blind4 ∷ Blind5 ∷ []

-- edition 2 adds multi-blind
abbrev pub all_events : List Event
all_events = events ++ MultiBlind ∷ []

-- the first edition that has the event
abbrev pub event_edition : Event → ℕ
event_edition MultiBlind = 2
event_edition _ = 1

abbrev pub event_name : Event → List ℕ
event_name Cube3 = codes "333"
event_name Cube2 = codes "222"
event_name Cube4 = codes "444"
event_name Cube5 = codes "555"
event_name Cube6 = codes "666"
event_name Cube7 = codes "777"
event_name Blind3 = codes "333bf"
event_name FewestMoves = codes "333fm"
event_name OneHanded = codes "333oh"
event_name Clock = codes "clock"
event_name Megaminx = codes "minx"
event_name Pyraminx = codes "pyram"
event_name Skewb = codes "skewb"
event_name Square1 = codes "sq1"
event_name Blind4 = codes "444bf"
event_name Blind5 = codes "555bf"
event_name MultiBlind = codes "333mbf"

-- the event of edition 1 that a text names, if it names one
unfoldable pub event_named : List ℕ → Option Event
event_named text = find (λ event. bytes_eq (event_name event) text) events

-- the event that a text names, if it names one
unfoldable pub event_of_name : List ℕ → Option Event
event_of_name text = find (λ event. bytes_eq (event_name event) text) all_events

-- the last round that an event may have (WCA Regulations, article 9m)
abbrev pub last_round : ℕ
last_round = 4

-- the most entrants of a round (the project's own)
abbrev pub most_entrants : ℕ
most_entrants = 999

-- all formats
abbrev pub formats : List Format
formats = Ao5 ∷ Mo3 ∷ Bo1 ∷ Bo2 ∷ Bo3 ∷ []

abbrev pub format_name : Format → List ℕ
format_name Ao5 = codes "ao5"
format_name Mo3 = codes "mo3"
format_name Bo1 = codes "bo1"
format_name Bo2 = codes "bo2"
format_name Bo3 = codes "bo3"

-- the format that a text names, if it names one
unfoldable pub format_named : List ℕ → Option Format
format_named text = find (λ format. bytes_eq (format_name format) text) formats

abbrev pub attempts_of : Format → ℕ
attempts_of Ao5 = 5
attempts_of Mo3 = 3
attempts_of Bo1 = 1
attempts_of Bo2 = 2
attempts_of Bo3 = 3

abbrev pub unit_of : Event → Measure
unit_of FewestMoves = Moves
unit_of MultiBlind = Multi
unit_of _ = Time

-- ao5, bo1, bo2, bo3
abbrev pub is_average_format : Format → Bool
is_average_format Mo3 = false
is_average_format _ = true

-- mo3, bo1, bo2
abbrev pub is_mean_format : Format → Bool
is_mean_format Ao5 = false
is_mean_format Bo3 = false
is_mean_format _ = true

-- bo1, bo2, bo3
abbrev pub is_best_format : Format → Bool
is_best_format Ao5 = false
is_best_format Mo3 = false
is_best_format _ = true

-- the formats that an event may have
abbrev pub is_allowed : Event → Format → Bool
is_allowed Cube6 format = is_mean_format format
is_allowed Cube7 format = is_mean_format format
is_allowed FewestMoves format = is_mean_format format
is_allowed Blind3 format = is_best_format format
is_allowed Blind4 format = is_best_format format
is_allowed Blind5 format = is_best_format format
is_allowed MultiBlind format = is_best_format format
is_allowed _ format = is_average_format format

-- the number of an event, from 1 on
abbrev pub event_number : Event → ℕ
event_number Cube3 = 1
event_number Cube2 = 2
event_number Cube4 = 3
event_number Cube5 = 4
event_number Cube6 = 5
event_number Cube7 = 6
event_number Blind3 = 7
event_number FewestMoves = 8
event_number OneHanded = 9
event_number Clock = 10
event_number Megaminx = 11
event_number Pyraminx = 12
event_number Skewb = 13
event_number Square1 = 14
event_number Blind4 = 15
event_number Blind5 = 16
event_number MultiBlind = 17

-- the event that a number is of, if it is of one
unfoldable pub event_of_number : ℕ → Option Event
event_of_number number = find (λ event. event_number event == number) all_events

-- whether two events are one, by their numbers
abbrev pub same_event : Event → Event → Bool
same_event a b = event_number a == event_number b
