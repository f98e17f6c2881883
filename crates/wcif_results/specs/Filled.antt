-- A competition's file with the results of a meet: its JSON value, in which the `results` of each
-- round that the meet has are those of the meet (the project's own). Every other member is as it
-- was, in its place: a number with its spelling, a text with its characters, an object with its
-- members in order, those that come twice included.
use Rattle.std.specs.Prelude.{ℕ, Bool, true, false, if◌then◌else◌, List, [], codes, bytes_eq, Some}
use Rattle.std.specs.{Prelude.Option, Prelude.None, Prelude.unwrap_or, Option.option_and_then}
use Rattle.json.specs.Json.{Json, array, object, Items, no_items, item, Members, no_members, member}
use Rattle.json.specs.Find.{get, as_str}
use Rattle.texts.specs.declared.command.Command.{Command}
use Rattle.wcif_results.specs.MeetRounds.{MeetRound, meet_rounds, round_named}
use Rattle.wcif_results.specs.Results.{results_json}

-- the value of a member with the name k: f of it under this name, and as it is under any other
abbrev pub value_with : List ℕ → (Json → Json) → (k : List ℕ) → Json → Json
value_with name f k j = if bytes_eq k name then f j else j

-- the members, with f of the values under a name
abbrev pub members_with : List ℕ → (Json → Json) → Members → Members
members_with name f no_members = no_members
members_with name f (member k j ms) =
    member k (value_with name f k j) (members_with name f ms)

-- an object, with f of the values under a name; any other value as it is
abbrev pub within : List ℕ → (Json → Json) → Json → Json
within name f (object ms) = object (members_with name f ms)
within name f d = d

abbrev pub items_with : (Json → Json) → Items → Items
items_with f no_items = no_items
items_with f (item j js) = item (f j) (items_with f js)

-- a list, with f of its items; any other value as it is
abbrev pub each : (Json → Json) → Json → Json
each f (array js) = array (items_with f js)
each f d = d

-- the members, with j under a name: in each place that has the name, or at the end where none has
-- it. There is a place in front where `there` is true.
abbrev pub members_having : Bool → List ℕ → Json → Members → Members
members_having there name j no_members = if there then no_members else member name j no_members
members_having there name j (member k e ms) =
    if bytes_eq k name then member k j (members_having true name j ms)
    else member k e (members_having there name j ms)

-- an object, with j under a name; any other value as it is
abbrev pub having : List ℕ → Json → Json → Json
having name j (object ms) = object (members_having false name j ms)
having name j d = d

-- a text under a name; the empty text where there is none
abbrev pub text_under : List ℕ → Json → List ℕ
text_under name d = unwrap_or (option_and_then as_str (get name d)) []

-- the id of a round; the empty text where it has none
abbrev pub id_of : Json → List ℕ
id_of d = text_under (codes "id") d

abbrev pub round_with : Option MeetRound → Json → Json
round_with None d = d
round_with (Some r) d = having (codes "results") (results_json r.table) d

-- a round of the file, with its results where it is one of these rounds
unfoldable pub filled_round : List MeetRound → Json → Json
filled_round rs d = round_with (round_named rs (id_of d)) d

unfoldable pub filled_event : List MeetRound → Json → Json
filled_event rs d = within (codes "rounds") (each (filled_round rs)) d

unfoldable pub filled_file : List MeetRound → Json → Json
filled_file rs d = within (codes "events") (each (filled_event rs)) d

-- the file with the results of the meet after these accepted commands
abbrev pub filled : List Command → Json → Json
filled cs d = filled_file (meet_rounds cs) d
