-- Limits for several attempts together in the WCA Competition Interchange Format (its TimeLimit,
-- where cumulativeRoundIds is not empty).
use Rattle.std.specs.Prelude.{ℕ, ◌==◌, if◌then◌else◌, List, length, find, codes, Option, None}
use Rattle.std.specs.Option.{option_and_then}
use Rattle.serde_json.specs.Data.{Data}
use Rattle.formats.specs.Events.{event_name}
use Rattle.texts.specs.declared.command.RoundId.{RoundId}
use Rattle.wcif.specs.{Members.member_at, Persons.has_id, Rounds.number_within, Rounds.round_id}
use Rattle.competition_file.specs.Items.{items_of, items_under}

-- the round of a file with an id: the first with it of the first event with the event's
unfoldable pub round_of : RoundId → Data → Option Data
round_of id d =
    find (has_id (round_id id.event id.round)) (items_of (codes "rounds")
    (find (has_id (event_name id.event)) (items_under (codes "events") d)))

-- the ids of the rounds of whose attempts this round's limit is the limit together; none where it
-- is that of each attempt
unfoldable pub limit_rounds : Data → List Data
limit_rounds r = items_of (codes "cumulativeRoundIds") (member_at (codes "timeLimit") r)

-- such a limit, in hundredths of a second
unfoldable pub cumulative_limit : Data → Option ℕ
cumulative_limit r =
    if length (limit_rounds r) == 0 then None
    else option_and_then (number_within 1 360000 (codes "centiseconds"))
    (member_at (codes "timeLimit") r)
