-- What a person of a competition's file in the WCA Competition Interchange Format is assigned to
-- (its Assignment), and the section of it (the project's own).
use Rattle.std.specs.Prelude.{ℕ, List, [], ◌∷◌, bytes_eq, codes, decimal, find}
use Rattle.std.specs.Prelude.{flat_map, map, slice_get, unwrap_or, Option, None, Some}
use Rattle.std.specs.{Map.lookup, Option.option_map}
use Rattle.serde_json.specs.Data.{Data}
use Rattle.competition_file.specs.{Files.persons, Items.items_under}
use Rattle.markup.specs.{board_page.Escaped.escaped, Pieces.fill}
use Rattle.wcif.specs.{Persons.given_name, Persons.has_number, Persons.text_under}
use Rattle.wcif.specs.Rounds.{number_within}
use Rattle.schedule_views.specs.{Looks.times, Order.in_order, Spots.Spot, Spots.spot_of}
use Rattle.schedule_views.specs.Spots.{spots}
use Rattle.schedule_views.specs.Schedule.{end_of, start_of, what}
use Rattle.schedule_views.specs.declared.today.TheConstants.{LOST, NOBODY, NOTHING, PERSON, TASK}

-- what the codes of assignments say: to compete, to help with a round, or another duty
abbrev pub duties : List (List ℕ × List ℕ)
duties =
    (codes "competitor", codes "competes")
    ∷ (codes "staff-scrambler", codes "scrambles")
    ∷ (codes "staff-runner", codes "runs")
    ∷ (codes "staff-judge", codes "judges")
    ∷ (codes "staff-dataentry", codes "enters results")
    ∷ (codes "staff-announcer", codes "announces")
    ∷ (codes "staff-delegate", codes "is a delegate")
    ∷ (codes "staff-stagelead", codes "leads the stage")
    ∷ (codes "staff-core", codes "is on the core staff")
    ∷ (codes "staff-setup", codes "sets up")
    ∷ (codes "staff-other", codes "helps")
    ∷ []

-- the words of a code; another code is shown as it is
abbrev pub do_words : List ℕ → List ℕ
do_words code = unwrap_or (lookup (bytes_eq code) duties) (escaped code)

abbrev pub number_words : Option ℕ → List ℕ
number_words None = []
number_words (Some n) = decimal n

-- the station, 1 to 9,999, where there is one
abbrev pub station_words : Data → List ℕ
station_words d = number_words (number_within 1 9999 (codes "stationNumber") d)

abbrev pub code_words : Data → List ℕ
code_words d = do_words (text_under (codes "assignmentCode") d)

-- the time zone and from when to when, for scripts; from when to when, what, what to do, the room,
-- and the station
abbrev pub spot_line : Data → Spot → List ℕ
spot_line d s =
    fill TASK.now (escaped (text_under (codes "timezone") s.venue)
    ∷ escaped (start_of s.activity) ∷ escaped (end_of s.activity)
    ∷ escaped (start_of s.activity) ∷ escaped (start_of s.activity)
    ∷ escaped (end_of s.activity) ∷ escaped (end_of s.activity) ∷ what s.round s.activity
    ∷ code_words d ∷ escaped (given_name s.room) ∷ station_words d ∷ [])

-- of an activity that the file does not have
abbrev pub lost_line : Data → List ℕ
lost_line d = fill LOST.now (code_words d ∷ station_words d ∷ [])

abbrev pub line_in : Data → Option Spot → List ℕ
line_in d None = lost_line d
line_in d (Some s) = spot_line d s

abbrev pub task_line : List Spot → Data → List ℕ
task_line all d = line_in d (spot_of all d)

abbrev pub start_in : Option Spot → List ℕ
start_in None = []
start_in (Some s) = start_of s.activity

abbrev pub start_at : List Spot → Data → List ℕ
start_at all d = start_in (spot_of all d)

abbrev pub starts : List Spot → List Data → List (List ℕ)
starts all ds = map (start_at all) ds

abbrev pub task_at : List Spot → List Data → ℕ → List ℕ
task_at all ds place = unwrap_or (option_map (task_line all) (slice_get ds place)) []

-- the lines of assignments, in the order in which their activities begin
abbrev pub tasks : List Spot → List Data → List ℕ
tasks all ds = flat_map (task_at all ds) (in_order (starts all ds))

-- the lines, or that there is none
unfoldable pub inside : List ℕ → List ℕ
inside [] = NOTHING.now
inside (b ∷ bs) = b ∷ bs

-- the name, the number, and the lines
abbrev pub section_with : ℕ → Data → List ℕ → List ℕ
section_with n p shown =
    fill PERSON.now (escaped (given_name p) ∷ decimal n ∷ inside shown ∷ times ∷ [])

abbrev pub person_section : Data → ℕ → Data → List ℕ
person_section file n p =
    section_with n p (tasks (spots file) (items_under (codes "assignments") p))

abbrev pub nobody : ℕ → List ℕ
nobody n = fill NOBODY.now (decimal n ∷ [])

abbrev pub section_of : Data → ℕ → Option Data → List ℕ
section_of file n None = nobody n
section_of file n (Some p) = person_section file n p

-- what the first accepted person with a number has to do
unfoldable pub today : ℕ → Data → List ℕ
today n file = section_of file n (find (has_number n) (persons file))
