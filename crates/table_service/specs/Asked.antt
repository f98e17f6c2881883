-- What a path and a query ask for (the project's own).
use Rattle.std.specs.Prelude.{ℕ, Bool, true, false, if◌then◌else◌, bytes_eq, codes, List, drop}
use Rattle.std.specs.Prelude.{length, take, Option, None, Some, Result, Ok, Err}
use Rattle.card_forms.specs.{Cards.round_of, Pairs.pairs_of, Pairs.value_of, Readings.number_of}
use Rattle.card_forms.specs.declared.faults.NumberFault.{NumberFault}
use Rattle.texts.specs.{declared.command.RoundId.RoundId, Fields.number_between}
use Rattle.table_service.specs.declared.reading.Resource.{Resource}
use Rattle.table_service.specs.declared.reading.Resource.TheVariants.{Page, Style, Script}
use Rattle.table_service.specs.declared.reading.TableView.TheVariants.{Overview, Card, Wall}
use Rattle.table_service.specs.declared.reading.TableView.TheVariants.{Before, Scorecards, People, Import}
use Rattle.table_service.specs.declared.reading.TableView.TheVariants.{History, Person, Rounds}
use Rattle.table_service.specs.declared.reading.TableView.TheVariants.{Labels, Records}

-- the round of a path below a folder
abbrev pub round_below : List ℕ → List ℕ → Option RoundId
round_below folder path =
    if bytes_eq (take (length folder) path) folder then round_of (drop (length folder) path)
    else None

-- the competitor's number of a path below a folder
abbrev pub number_below : List ℕ → List ℕ → Option ℕ
number_below folder path =
    if bytes_eq (take (length folder) path) folder
    then number_between 1 9999 (drop (length folder) path) else None

-- what is at a path that names no round and no competitor, and has no query
abbrev pub fixed : List ℕ → Option Resource
fixed path =
    if bytes_eq path (codes "/") then Some (Page Overview)
    else if bytes_eq path (codes "/people") then Some (Page People)
    else if bytes_eq path (codes "/import") then Some (Page Import)
    else if bytes_eq path (codes "/before") then Some (Page Before)
    else if bytes_eq path (codes "/labels") then Some (Page Labels)
    else if bytes_eq path (codes "/table.css") then Some Style
    else if bytes_eq path (codes "/table.js") then Some Script
    else None

abbrev pub rounds_asked : List ℕ → Resource
rounds_asked query = Page (Rounds (round_of (value_of (codes "round") (pairs_of query))))

abbrev pub number_if : Result ℕ NumberFault → Option ℕ
number_if (Ok number) = Some number
number_if (Err why) = None

abbrev pub card_asked : List ℕ → RoundId → Resource
card_asked query round =
    Page (Card round (number_if (number_of (value_of (codes "number") (pairs_of query)))))

abbrev pub history_of : RoundId → Option ℕ → Option Resource
history_of round None = None
history_of round (Some number) = Some (Page (History round number))

abbrev pub history_asked : List ℕ → RoundId → Option Resource
history_asked query round =
    history_of round (number_if (number_of (value_of (codes "number") (pairs_of query))))

-- by the round of the path of a card, of a sheet for the wall, of blank cards, of personal records,
-- and of what was entered for a competitor, and by the number of the path of a competitor
abbrev pub by_folder : List ℕ → Option RoundId → Option RoundId → Option RoundId → Option RoundId
    → Option RoundId → Option ℕ → Option Resource
by_folder query (Some round) wall scorecards records history person = Some (card_asked query round)
by_folder query None (Some round) scorecards records history person = Some (Page (Wall round))
by_folder query None None (Some round) records history person = Some (Page (Scorecards round))
by_folder query None None None (Some round) history person = Some (Page (Records round))
by_folder query None None None None (Some round) person = history_asked query round
by_folder query None None None None None (Some number) = Some (Page (Person number))
by_folder query None None None None None None = None

abbrev pub in_folder : List ℕ → List ℕ → Option Resource
in_folder path query =
    by_folder query (round_below (codes "/card/") path) (round_below (codes "/wall/") path)
    (round_below (codes "/scorecards/") path) (round_below (codes "/records/") path)
    (round_below (codes "/history/") path) (number_below (codes "/person/") path)

abbrev pub asked_by : Option Resource → Bool → List ℕ → List ℕ → Option Resource
asked_by (Some asked) rounds path query = Some asked
asked_by None true path query = Some (rounds_asked query)
asked_by None false path query = in_folder path query

-- what a path and a query ask for, if anything
abbrev pub asked_at : List ℕ → List ℕ → Option Resource
asked_at path query = asked_by (fixed path) (bytes_eq path (codes "/rounds")) path query
