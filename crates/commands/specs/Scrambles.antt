-- The scrambles of a round's attempts (the project's own).
use Rattle.std.specs.Prelude.{ℕ, ◌==◌, ◌&&◌, if◌then◌else◌, List, [], Option, None, Some}
use Rattle.std.specs.Option.{option_and_then}
use Rattle.cube.specs.declared.moves.Move.{Move}
use Rattle.formats.specs.declared.events.Event.{Event}
use Rattle.texts.specs.declared.command.{Command.Command, AttemptEntry.AttemptEntry}
use Rattle.texts.specs.declared.command.Command.TheVariants.{Scramble, Rescramble}
use Rattle.commands.specs.{Standing.standing, Openings.is_of, Openings.Opened, Openings.opened}

-- the scramble that a command sets for an attempt
abbrev pub scrambling : Event → ℕ → ℕ → Command → Option (List Move)
scrambling e r k (Scramble id j moves) = if is_of e r id && k == j then Some moves else None
scrambling e r k _ = None

-- the scramble that a command puts in the place of an attempt's
abbrev pub rescrambling : Event → ℕ → ℕ → Command → Option (List Move)
rescrambling e r k (Rescramble id j moves) = if is_of e r id && k == j then Some moves else None
rescrambling e r k _ = None

-- the scramble of an attempt, by the commands since its round was opened: the first that was set
-- for it, or the last that took its place
abbrev pub scramble_in : Event → ℕ → ℕ → List Command → Option (List Move)
scramble_in e r k cs = standing (scrambling e r k) (rescrambling e r k) cs

abbrev pub scramble_since : Event → ℕ → ℕ → Opened → Option (List Move)
scramble_since e r k o = scramble_in e r k o.since

abbrev pub scramble_of : List Command → Event → ℕ → ℕ → Option (List Move)
scramble_of cs e r k = option_and_then (scramble_since e r k) (opened e r [] cs)

-- the scramble of the attempt for which something is entered
abbrev pub scramble_by : List Command → AttemptEntry → Option (List Move)
scramble_by cs entry = scramble_of cs entry.id.event entry.id.round entry.attempt
