-- The activities of a schedule in the WCA Competition Interchange Format (its Activity, at any
-- level), each with its Venue and Room.
use Rattle.std.specs.Prelude.{ℕ, zero, suc, Bool, List, [], ◌∷◌, codes, find, flat_map, Option}
use Rattle.std.specs.Option.{option_and_then}
use Rattle.serde_json.specs.{Data.Data, View.view}
use Rattle.competition_file.specs.{Files.venues, Items.items_under}
use Rattle.wcif.specs.{Members.number_at, Persons.is_number}
use Rattle.schedule_views.specs.declared.spots.Spot.{Spot as Held}

-- an activity, with the venue and the room where it is, the activity of the room that it is or that
-- it is a part of, and its id
pub record Spot : Type 0 where
  pub venue : Data
  pub room : Data
  pub round : Data
  pub activity : Data
  pub id : Option ℕ

abbrev pub seen : Held → Spot
seen held = record {
  venue = view held.venue.now;
  room = view held.room.now;
  round = view held.round.now;
  activity = view held.activity.now;
  id = held.id;
}

abbrev pub spot : (venue room round activity : Data) → Spot
spot venue room round activity = record {
  venue = venue;
  room = room;
  round = round;
  activity = activity;
  id = number_at (codes "id") activity;
}

-- an activity and those below it, so many levels down
abbrev pub spots_down : (venue room round : Data) → ℕ → Data → List Spot
spots_down venue room round zero d = spot venue room round d ∷ []
spots_down venue room round (suc n) d =
    spot venue room round d
    ∷ flat_map (spots_down venue room round n) (items_under (codes "childActivities") d)

-- a file nests at most 64 deep, and each level is two: these are all
unfoldable pub spots_in_round : (venue room round : Data) → List Spot
spots_in_round venue room round = spots_down venue room round 32 round

abbrev pub spots_in_room : (venue room : Data) → List Spot
spots_in_room venue room =
    flat_map (spots_in_round venue room) (items_under (codes "activities") room)

abbrev pub spots_in_venue : Data → List Spot
spots_in_venue venue = flat_map (spots_in_room venue) (items_under (codes "rooms") venue)

-- all activities, in the order of the file
unfoldable pub spots : Data → List Spot
spots d = flat_map spots_in_venue (venues d)

abbrev pub is_spot : ℕ → Spot → Bool
is_spot id s = is_number id s.id

-- the activity that an assignment names: the first of the file with its id
abbrev pub spot_of : List Spot → Data → Option Spot
spot_of all d =
    option_and_then (λ id. find (is_spot id) all) (number_at (codes "activityId") d)
