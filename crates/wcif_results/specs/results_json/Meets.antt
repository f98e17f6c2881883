-- The results of a meet as a JSON value: an object with the list of all rounds that were opened, in
-- the order of the events' numbers and then of the rounds' (the project's own).
use Rattle.std.specs.Prelude.{List, ◌++◌, codes, flat_map}
use Rattle.json.specs.Json.{Json, array, object, no_members, member}
use Rattle.json.specs.Value.{items_of}
use Rattle.formats.specs.{declared.events.Event.Event, Events.all_events}
use Rattle.texts.specs.declared.command.Command.{Command}
use Rattle.wcif_results.specs.results_json.Rounds.{round_list}

-- the rounds of an event
abbrev pub event_list : List Command → Event → List Json
event_list cs event =
    round_list cs event 1
    ++ (round_list cs event 2 ++ (round_list cs event 3 ++ round_list cs event 4))

unfoldable pub rounds_json : List Command → Json
rounds_json cs = array (items_of (flat_map (event_list cs) all_events))

abbrev pub meet_json : List Command → Json
meet_json cs = object (member (codes "rounds") (rounds_json cs) no_members)
