-- The rounds of a meet, with their ids in a file of the WCA Competition Interchange Format.
use Rattle.std.specs.Prelude.{ℕ, List, [], ◌∷◌, flat_map, find, bytes_eq, option_to_list, Option}
use Rattle.std.specs.Option.{option_map}
use Rattle.formats.specs.declared.events.{Event.Event, Format.Format}
use Rattle.formats.specs.Events.{all_events}
use Rattle.rounds.specs.Tables.{Table}
use Rattle.texts.specs.declared.command.{Command.Command, Settings.Settings}
use Rattle.commands.specs.Accepted.{round_of}
use Rattle.wcif.specs.Rounds.{round_id}

-- the id is the event's, `-r` and the number
pub record MeetRound : Type 0 where
  pub event : Event
  pub number : ℕ
  pub id : List ℕ
  pub format : Format
  pub table : Table

abbrev pub meet_round : Event → ℕ → Settings × Table → MeetRound
meet_round e r x =
    record { event = e; number = r; id = round_id e r; format = x.0.format; table = x.1 }

-- the round of an event with this number, where it was opened
abbrev pub round_at : List Command → Event → ℕ → List MeetRound
round_at cs e r = option_to_list (option_map (meet_round e r) (round_of cs e r))

-- the numbers that a round may have
abbrev pub round_numbers : List ℕ
round_numbers = 1 ∷ 2 ∷ 3 ∷ 4 ∷ []

abbrev pub event_rounds : List Command → Event → List MeetRound
event_rounds cs e = flat_map (round_at cs e) round_numbers

-- all rounds that were opened, in the order of the events' numbers
unfoldable pub meet_rounds : List Command → List MeetRound
meet_rounds cs = flat_map (event_rounds cs) all_events

-- the round with an id
abbrev pub round_named : List MeetRound → List ℕ → Option MeetRound
round_named rs id = find (λ r. bytes_eq r.id id) rs
