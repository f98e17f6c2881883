-- The groups of rounds in the WCA Competition Interchange Format (its Activity, whose code is as
-- 333-r1-g2), and who competes in which (its Assignment).
use Rattle.std.specs.Prelude.{ℕ, zero, suc, ◌==◌, Bool, if◌then◌else◌, List, ◌++◌, flat_map}
use Rattle.std.specs.Prelude.{bytes_eq, codes, find, length, take, drop, Option, Some, None}
use Rattle.std.specs.Prelude.{filter_map, slice_get}
use Rattle.std.specs.Option.{option_and_then, option_map, option_to_list}
use Rattle.serde_json.specs.Data.{Data}
use Rattle.texts.specs.Fields.{cut, number_between}
use Rattle.texts.specs.declared.command.RoundId.{RoundId}
use Rattle.wcif.specs.Members.{number_at}
use Rattle.wcif.specs.Persons.{text_under}
use Rattle.wcif.specs.Rounds.{number_within, round_id}
use Rattle.competition_file.specs.declared.groups.RoundGroup.{RoundGroup}
use Rattle.competition_file.specs.declared.groups.{ActivitySeat.ActivitySeat, Seat.Seat}
use Rattle.competition_file.specs.{Files.venues, Items.items_under}

-- the lists on the levels below a venue, counted from the groups
abbrev pub level_name : ℕ → List ℕ
level_name n =
    if n == 3 then codes "rooms" else if n == 2 then codes "activities"
    else codes "childActivities"

-- what is after a text in the front of another
abbrev pub after : List ℕ → List ℕ → Option (List ℕ)
after front text =
    if bytes_eq (take (length front) text) front then Some (drop (length front) text) else None

-- the number of a group, up to what may follow it in the code
abbrev pub number_after : List ℕ → Option ℕ
number_after rest = number_between 1 9999 (cut 45 rest).0

abbrev pub group : ℕ → ℕ → RoundGroup
group n id = record { activity = id; number = n }

abbrev pub group_of : Data → ℕ → Option RoundGroup
group_of d n = option_map (group n) (number_at (codes "id") d)

-- the group that an activity is, where its code begins so
abbrev pub group_in : List ℕ → Data → Option RoundGroup
group_in front d =
    option_and_then (group_of d)
    (option_and_then number_after (after front (text_under (codes "activityCode") d)))

-- how the codes of the groups of a round begin
abbrev pub group_prefix : RoundId → List ℕ
group_prefix id = round_id id.event id.round ++ codes "-g"

-- the groups so many levels down whose codes begin so
abbrev pub groups_down : List ℕ → ℕ → Data → List RoundGroup
groups_down front zero d = option_to_list (group_in front d)
groups_down front (suc n) d =
    flat_map (groups_down front n) (items_under (level_name (suc n)) d)

-- the groups of a round, in the order of the file: the child activities, with such a code, of the
-- activities of the rooms of the venues
unfoldable pub round_groups : RoundId → Data → List RoundGroup
round_groups id d = flat_map (groups_down (group_prefix id) 3) (venues d)

abbrev pub with_activity : ℕ → List RoundGroup → Option RoundGroup
with_activity id groups = find (λ one. one.activity == id) groups

abbrev pub is_competitor : Data → Bool
is_competitor d = bytes_eq (text_under (codes "assignmentCode") d) (codes "competitor")

abbrev pub station_of : Data → Option ℕ
station_of d = number_within 1 9999 (codes "stationNumber") d

abbrev pub in_activity : Data → ℕ → ActivitySeat
in_activity d id = record { activity = id; station = station_of d }

-- the activity in which an assignment lets somebody compete, and the station
abbrev pub activity_seat : Data → Option ActivitySeat
activity_seat d =
    if is_competitor d then option_map (in_activity d) (number_at (codes "activityId") d) else None

abbrev pub seats_in : Data → List ActivitySeat
seats_in d = option_to_list (activity_seat d)

-- all activities in which a person competes, in the order of the assignments
unfoldable pub seats_of : Data → List ActivitySeat
seats_of p = flat_map seats_in (items_under (codes "assignments") p)

abbrev pub seat : ActivitySeat → RoundGroup → Seat
seat s one = record { group = one.number; station = s.station }

-- the seat in an activity that is one of these groups
abbrev pub seat_with : List RoundGroup → ActivitySeat → Option Seat
seat_with groups s = option_map (seat s) (with_activity s.activity groups)

abbrev pub seat_among : List RoundGroup → List ActivitySeat → Option Seat
seat_among groups seats = slice_get (filter_map (seat_with groups) seats) 0

-- where a person competes, in one of these groups: by the first assignment that says it
abbrev pub seat_of : List RoundGroup → Data → Option Seat
seat_of groups p = seat_among groups (seats_of p)
