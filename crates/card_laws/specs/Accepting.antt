-- Commands that are accepted one after the other (the project's own).
use Rattle.std.specs.Prelude.{◌≡◌, ℕ, List, [], ◌∷◌, ◌++◌, Option, None}
use Rattle.std.specs.Option.{option_or}
use Rattle.texts.specs.declared.{command.Command.Command, answer.Code.Code}
use Rattle.commands.specs.{Accepted.refusal, History.history_in}

-- the first refusal of these commands, each asked after `cs` and those in front of it
abbrev pub first_refusal : List Command → List Command → Option Code
first_refusal cs [] = None
first_refusal cs (c ∷ ds) = option_or (refusal cs c) (first_refusal (cs ++ c ∷ []) ds)

-- each of these commands is accepted after `cs` and those in front of it
abbrev pub AreAccepted : List Command → List Command → Type 0
AreAccepted cs ds = first_refusal cs ds ≡ None

-- each command that a list of entries comes to is accepted after those before it, wherever the list
-- is divided; so what is said of accepted commands holds for the commands of every log
abbrev pub LogsAreAccepted : Type 0
LogsAreAccepted =
    (k : ℕ) (entries : List (ℕ × List ℕ)) (cs ds : List Command)
    → (history_in k entries).accepted ≡ cs ++ ds → AreAccepted cs ds
