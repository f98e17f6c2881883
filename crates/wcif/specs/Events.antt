-- The events of a competition in the WCA Competition Interchange Format (its Event), and what a
-- desk cannot hold of them.
use Rattle.std.specs.Prelude.{ℕ, ◌==◌, ◌&&◌, Bool, nat_lt, if◌then◌else◌, List, [], ◌∷◌, ◌++◌}
use Rattle.std.specs.Prelude.{length, map, count_by, codes, Option, Some, None, unwrap_or}
use Rattle.std.specs.List.{list_any}
use Rattle.serde_json.specs.Data.{Data}
use Rattle.formats.specs.declared.events.Event.{Event}
use Rattle.formats.specs.Events.{event_name, event_of_name, most_entrants, last_round}
use Rattle.wcif.specs.{declared.options.CumulativeLimits.CumulativeLimits, Members.list_at}
use Rattle.wcif.specs.{declared.fault.CompetitionFault.CompetitionFault, Rounds.round_faults}
use Rattle.wcif.specs.Persons.{text_under, is_accepted, event_ids, has_id, is_id}
use Rattle.wcif.specs.Told.{told, place}
use Rattle.wcif.specs.declared.fault.CompetitionFault.TheVariants as of
use Rattle.wcif.specs.declared.fault.EventFault.TheVariants as fault

-- the event of a desk with the id
unfoldable pub event_named : Data → Option Event
event_named d = event_of_name (text_under (codes "id") d)

-- its rounds; none where there is no list of them
unfoldable pub rounds_of : Data → List Data
rounds_of d = unwrap_or (list_at (codes "rounds") d) []

-- an accepted person who is registered for the event
unfoldable pub enters : Event → Data → Bool
enters e p = is_accepted p && list_any (is_id (event_name e)) (unwrap_or (event_ids p) [])

abbrev pub repeated_faults : Event → List Data → List CompetitionFault
repeated_faults e earlier =
    if list_any (has_id (event_name e)) earlier then of.Event (place earlier) fault.Repeated ∷ []
    else []

abbrev pub entrants_faults : Event → ℕ → List Data → List CompetitionFault
entrants_faults e place persons =
    if nat_lt most_entrants (count_by (enters e) persons)
    then of.Event place fault.TooManyEntrants ∷ [] else []

abbrev pub each_round : CumulativeLimits → Event → List Data → Data → List CompetitionFault
each_round how e earlier d =
    map (of.Round e (place earlier)) (round_faults how e (place earlier) d)

abbrev pub rounds_faults : CumulativeLimits → Event → ℕ → List Data → List CompetitionFault
rounds_faults how e at rounds =
    if length rounds == 0 then of.Event at fault.NoRounds ∷ []
    else if nat_lt last_round (length rounds) then of.Event at fault.TooManyRounds ∷ []
    else told (each_round how e) rounds

abbrev pub named_faults : CumulativeLimits → List Data → List Data → Data → Option Event
    → List CompetitionFault
named_faults how persons earlier d None = of.Event (place earlier) fault.Unknown ∷ []
named_faults how persons earlier d (Some e) =
    repeated_faults e earlier ++ entrants_faults e (place earlier) persons
    ++ rounds_faults how e (place earlier) (rounds_of d)

-- what a desk cannot hold of an event, given the persons and the events in front
unfoldable pub event_faults : CumulativeLimits → List Data → List Data → Data
    → List CompetitionFault
event_faults how persons earlier d = named_faults how persons earlier d (event_named d)
