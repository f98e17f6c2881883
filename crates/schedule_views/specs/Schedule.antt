-- The schedule of a competition's file in the WCA Competition Interchange Format (its Schedule,
-- Venue, Room and Activity), and the section of it (the project's own).
use Rattle.std.specs.Prelude.{ℕ, Bool, if◌then◌else◌, List, [], ◌∷◌, ◌++◌, bytes_eq, codes}
use Rattle.std.specs.Prelude.{flat_map, is_some, length, map, slice_get, take, unwrap_or, Option}
use Rattle.std.specs.Prelude.{None, Some}
use Rattle.std.specs.Option.{option_and_then, option_map}
use Rattle.serde_json.specs.Data.{Data}
use Rattle.commands.specs.Accepted.{round_by}
use Rattle.competition_file.specs.{Files.venues, Groups.after, Items.items_under}
use Rattle.formats.specs.{declared.events.Event.Event, Events.event_of_name, Events.last_round}
use Rattle.markup.specs.{board_page.Escaped.escaped, Pieces.fill}
use Rattle.round_words.specs.Words.{round_name}
use Rattle.texts.specs.declared.command.{Command.Command, RoundId.RoundId}
use Rattle.texts.specs.Fields.{cut, number_between, round_id}
use Rattle.wcif.specs.Persons.{given_name, text_under}
use Rattle.schedule_views.specs.{Looks.times, Order.in_order}
use Rattle.schedule_views.specs.declared.schedule.TheConstants.{BOTH, GROUP, LINE, LINK}
use Rattle.schedule_views.specs.declared.schedule.TheConstants.{NO_SCHEDULE, SCHEDULE, TABLE}

-- ---- an activity

abbrev pub start_of : Data → List ℕ
start_of d = text_under (codes "startTime") d

abbrev pub end_of : Data → List ℕ
end_of d = text_under (codes "endTime") d

abbrev pub is_named_after : (round name : List ℕ) → Bool
is_named_after round name = bytes_eq (take (length round) name) round

-- what an activity is, of the activity of a room that it is or that it is a part of: its name, and
-- that of the other where it does not begin with it
abbrev pub what : (round activity : Data) → List ℕ
what round d =
    if is_named_after (given_name round) (given_name d)
    then fill (codes "$") (escaped (given_name d) ∷ [])
    else fill BOTH.now (escaped (given_name round) ∷ escaped (given_name d) ∷ [])

-- ---- the round of an activity (the format's ActivityCode)

-- the number of a round, as r1
abbrev pub round_number : List ℕ → Option ℕ
round_number text = option_and_then (number_between 1 last_round) (after (codes "r") text)

-- by what is after the event, as r1 of a round, or r1-g2 of a part of it
abbrev pub round_after : Event → List ℕ → Option RoundId
round_after e rest = option_map (round_id e) (round_number (cut 45 rest).0)

-- the round that a code names, as 333-r1 or 333-r1-g2
abbrev pub round_named : List ℕ → Option RoundId
round_named code =
    option_and_then (λ e. option_and_then (round_after e) (cut 45 code).1)
    (event_of_name (cut 45 code).0)

-- a round, where these accepted commands opened it
abbrev pub if_opened : List Command → RoundId → Option RoundId
if_opened cs id = if is_some (round_by cs id) then Some id else None

-- the round that an activity is or that it is a part of, where that was opened
abbrev pub opened_round : List Command → Data → Option RoundId
opened_round cs d =
    option_and_then (if_opened cs) (round_named (text_under (codes "activityCode") d))

-- the name, which leads to the page of the board that shows this round, as /333-1, where there is
-- one
abbrev pub name_cell : Option RoundId → Data → List ℕ
name_cell None d = escaped (given_name d)
name_cell (Some id) d = fill LINK.now (round_name id ∷ escaped (given_name d) ∷ [])

-- from when to when and what, for scripts, and from when to when and the name
abbrev pub line : List Command → List ℕ → (round activity : Data) → List ℕ
line cs class round d =
    fill LINE.now (class ∷ escaped (start_of d) ∷ escaped (end_of d) ∷ what round d
    ∷ escaped (start_of d) ∷ escaped (start_of d) ∷ escaped (end_of d) ∷ escaped (end_of d)
    ∷ name_cell (opened_round cs d) d ∷ [])

-- ---- activities, in the order in which they begin

abbrev pub starts : List Data → List (List ℕ)
starts ds = map start_of ds

abbrev pub group_at : List Command → Data → List Data → ℕ → List ℕ
group_at cs round ds place =
    unwrap_or (option_map (line cs GROUP.now round) (slice_get ds place)) []

abbrev pub groups : List Command → Data → List Data → List ℕ
groups cs round ds = flat_map (group_at cs round ds) (in_order (starts ds))

-- the line of an activity of a room, and those of its groups, which are its child activities
abbrev pub activity_lines : List Command → Data → List ℕ
activity_lines cs d =
    line cs [] d d ++ groups cs d (items_under (codes "childActivities") d)

abbrev pub activity_at : List Command → List Data → ℕ → List ℕ
activity_at cs ds place = unwrap_or (option_map (activity_lines cs) (slice_get ds place)) []

abbrev pub activities : List Command → List Data → List ℕ
activities cs ds = flat_map (activity_at cs ds) (in_order (starts ds))

-- ---- the section

-- the table of a room: the venue's time zone, the room, for scripts and for people, the venue, and
-- the lines
abbrev pub room_table : List Command → (venue room : Data) → List ℕ
room_table cs venue room =
    fill TABLE.now (escaped (text_under (codes "timezone") venue) ∷ escaped (given_name room)
    ∷ escaped (given_name room) ∷ escaped (given_name venue)
    ∷ activities cs (items_under (codes "activities") room) ∷ [])

abbrev pub venue_tables : List Command → Data → List ℕ
venue_tables cs venue = flat_map (room_table cs venue) (items_under (codes "rooms") venue)

abbrev pub tables : List Command → Data → List ℕ
tables cs d = flat_map (venue_tables cs) (venues d)

-- the tables, or that there is none
unfoldable pub inside : List ℕ → List ℕ
inside [] = NO_SCHEDULE.now
inside (b ∷ bs) = b ∷ bs

-- the schedule of a file beside these accepted commands
unfoldable pub schedule : List Command → Data → List ℕ
schedule cs d = fill SCHEDULE.now (inside (tables cs d) ∷ times ∷ [])
