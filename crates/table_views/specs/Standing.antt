-- What counts of a competitor in a round (the project's own).
use Rattle.std.specs.Prelude.{ℕ, List, [], Option, None, Some, option_map, unwrap_or}
use Rattle.attempts.specs.declared.Value.{Value}
use Rattle.commands.specs.Accepted.{round_by}
use Rattle.rounds.specs.Tables.{Table, entrant}
use Rattle.texts.specs.declared.command.{Command.Command, RoundId.RoundId}

-- the values that count of a number in a round; none where it is not in the round
abbrev pub values_of : Table → ℕ → List Value
values_of t number = unwrap_or (option_map (λ e. e.values) (entrant t number)) []

abbrev pub values_in : ℕ → Option Table → List Value
values_in number None = []
values_in number (Some t) = values_of t number

-- the values that count of a number in a round of these accepted commands
abbrev pub standing : List Command → RoundId → ℕ → List Value
standing accepted id number =
    values_in number (option_map (λ round. round.1) (round_by accepted id))
