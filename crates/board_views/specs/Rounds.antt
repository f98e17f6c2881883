-- Rounds at a position of a log (the project's own).
use Rattle.std.specs.Prelude.{ℕ, List, map, flat_map, length, take, nat_le, Option, if◌then◌else◌}
use Rattle.std.specs.{Prelude.None, List.range_with_len}
use Rattle.acceptor.specs.declared.entry.Entry.{Entry}
use Rattle.answers.specs.Answers.{sheet_at, texts}
use Rattle.commands.specs.History.{history}
use Rattle.formats.specs.{declared.events.Event.Event, Events.all_events, Events.last_round}
use Rattle.texts.specs.declared.command.{Command.Command, RoundId.RoundId}
use Rattle.formats.specs.declared.styles.SheetStyle.TheVariants as style

-- the accepted commands of a log
abbrev pub accepted_in : List Entry → List Command
accepted_in log = (history (texts log)).accepted

-- those of the first entries of a log
abbrev pub accepted_at : List Entry → ℕ → List Command
accepted_at log position = accepted_in (take position log)

-- the table of a round after the first entries of a log, where there are this many and the round
-- was opened in them: the Regulations' sheet for the accepted commands up to there
unfoldable pub table_at : List Entry → ℕ → RoundId → Option (List ℕ)
table_at log position id =
    if nat_le position (length log) then sheet_at style.Table log position id.event id.round
    else None

abbrev pub round_of : Event → ℕ → RoundId
round_of event round = record { event = event; round = round }

abbrev pub rounds_of : Event → List RoundId
rounds_of event = map (round_of event) (range_with_len 1 last_round)

-- all rounds that may be, in the order of events
abbrev pub all_rounds : List RoundId
all_rounds = flat_map rounds_of all_events
