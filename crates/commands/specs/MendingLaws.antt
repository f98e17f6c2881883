-- What the commands that mend mistakes leave as it was (the project's own).
use Rattle.std.specs.Prelude.{◌≡◌, ℕ, List, [], ◌∷◌, ◌++◌, None}
use Rattle.formats.specs.declared.events.Event.{Event}
use Rattle.texts.specs.declared.command.{Command.Command, RoundId.RoundId}
use Rattle.texts.specs.declared.command.Command.TheVariants.{Close, Rename, Reopen}
use Rattle.commands.specs.Accepted.{refusal, round_of}

-- a round that is opened again, and then closed with nothing between, is what it was, and so is
-- each other round
abbrev pub ClosesAsBefore : Type 0
ClosesAsBefore =
    (cs : List Command) (id : RoundId) (event : Event) (round : ℕ) → refusal cs (Reopen id) ≡ None
    → round_of (cs ++ Reopen id ∷ Close id ∷ []) event round ≡ round_of cs event round

-- another name for a competitor changes no round, so no place
abbrev pub RenamesAlone : Type 0
RenamesAlone =
    (cs : List Command) (number : ℕ) (name : List ℕ) (event : Event) (round : ℕ)
    → round_of (cs ++ Rename number name ∷ []) event round ≡ round_of cs event round
