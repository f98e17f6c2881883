-- What of a meet a competition's file has no place for: a round with a result that it lacks, and an
-- entrant who is none of its accepted persons, by his number or by each name that he was given (the
-- project's own).
use Rattle.std.specs.Prelude.{ℕ, if◌then◌else◌, List, [], ◌∷◌, map, flat_map, codes, decimal, None}
use Rattle.std.specs.Prelude.{bytes_eq, Bool, true, false, ◌&&◌, ◌||◌, unwrap_or, find, is_some}
use Rattle.std.specs.{Prelude.Option, Prelude.Some, Option.option_and_then, Option.option_map}
use Rattle.json.specs.Json.{Json, Items, no_items, item}
use Rattle.json.specs.Find.{get, as_array, as_number, as_str}
use Rattle.commands.specs.Accepted.{name_of}
use Rattle.rounds.specs.Tables.{is_attempted, standings}
use Rattle.texts.specs.declared.command.Command.{Command}
use Rattle.wcif_results.specs.{declared.fault.MeetFault.MeetFault, Filled.id_of, Filled.text_under}
use Rattle.wcif_results.specs.MeetRounds.{MeetRound, meet_rounds}
use Rattle.wcif_results.specs.Names.{is_called, names_given}
use Rattle.wcif_results.specs.declared.fault.MeetFault.TheVariants as fault

abbrev pub listed : Items → List Json
listed no_items = []
listed (item j js) = j ∷ listed js

-- the items of the list under a name; none where there is no list
abbrev pub items_under : List ℕ → Json → List Json
items_under name d = unwrap_or (option_map listed (option_and_then as_array (get name d))) []

-- the rounds of the file
unfoldable pub file_rounds : Json → List Json
file_rounds d = flat_map (items_under (codes "rounds")) (items_under (codes "events") d)

-- the id and the format of a round of the file
abbrev pub held : Json → List ℕ × List ℕ
held e = (id_of e, text_under (codes "format") e)

-- the first of these rounds with an id
abbrev pub round_with_id : List ℕ → List (List ℕ × List ℕ) → Option (List ℕ × List ℕ)
round_with_id id es = find (λ e. bytes_eq e.0 id) es

-- the status of a person's registration; the empty text where there is none
abbrev pub status_of : Json → List ℕ
status_of p =
    unwrap_or (option_and_then as_str
    (option_and_then (get (codes "status")) (get (codes "registration") p))) []

-- the registration is neither pending nor deleted
unfoldable pub is_accepted : Json → Bool
is_accepted p = bytes_eq (status_of p) (codes "accepted")

-- the number of a person as the file spells it; the empty text where there is none
abbrev pub number_of : Json → List ℕ
number_of p = unwrap_or (option_and_then as_number (get (codes "registrantId") p)) []

-- a person has a number, and is accepted where not all may be meant
abbrev pub is_numbered : Bool → List ℕ → Json → Bool
is_numbered all number p = bytes_eq (number_of p) number && (all || is_accepted p)

-- the first of the persons with a number: of all, or of those who are accepted
abbrev pub person_with : Bool → List ℕ → List Json → Option Json
person_with all number ps = find (is_numbered all number) ps

-- the name of a number in the meet
abbrev pub name_here : List Command → ℕ → List ℕ
name_here cs n = unwrap_or (name_of cs n) []

-- of an entrant, given the accepted person with his number, and else any person with it
abbrev pub person_faults : List Command → MeetRound → ℕ → Option Json → Option Json → List MeetFault
person_faults cs r n (Some p) other =
    if is_called (names_given cs) n p then []
    else fault.OtherName r.event r.number n (name_here cs n) (text_under (codes "name") p) ∷ []
person_faults cs r n None (Some p) =
    fault.NotAccepted r.event r.number n (name_here cs n) (text_under (codes "name") p) ∷ []
person_faults cs r n None None = fault.NoPerson r.event r.number n (name_here cs n) ∷ []

abbrev pub entrant_faults : List Command → List Json → MeetRound → ℕ → List MeetFault
entrant_faults cs ps r n =
    person_faults cs r n (person_with false (decimal n) ps) (person_with true (decimal n) ps)

-- of all entrants of a round
abbrev pub entrants_faults : List Command → List Json → MeetRound → List MeetFault
entrants_faults cs ps r = flat_map (entrant_faults cs ps r) (standings r.table)

-- of a round, given whether the file has one with its id: where it has none, and the round has no
-- result, it is left out
abbrev pub placed_faults : List Command → List Json → MeetRound → Bool → List MeetFault
placed_faults cs ps r there =
    if there then entrants_faults cs ps r
    else if is_attempted r.table 1
    then fault.NoRound r.event r.number ∷ entrants_faults cs ps r
    else []

abbrev pub round_faults : List Command → List (List ℕ × List ℕ) → List Json → MeetRound
    → List MeetFault
round_faults cs es ps r = placed_faults cs ps r (is_some (round_with_id r.id es))

unfoldable pub faults_of : List Command → List MeetRound → Json → List MeetFault
faults_of cs rs d =
    flat_map (round_faults cs (map held (file_rounds d)) (items_under (codes "persons") d)) rs

-- all that the file has no place for, by rounds
abbrev pub faults : List Command → Json → List MeetFault
faults cs d = faults_of cs (meet_rounds cs) d
