-- Competitors (the project's own).
use Rattle.std.specs.Prelude.{ℕ, List, [], Option, unwrap_or}
use Rattle.texts.specs.{declared.command.Command.Command, Fields.number_between}
use Rattle.scorecard.specs.Spelling.{trimmed}
use Rattle.commands.specs.Accepted.{name_of}

-- the competitor's number that a text is, with white space around it or without
abbrev pub number_in : List ℕ → Option ℕ
number_in text = number_between 1 9999 (trimmed text)

-- the name of a competitor, and nothing where nobody has the number
abbrev pub name_in : List Command → ℕ → List ℕ
name_in accepted number = unwrap_or (name_of accepted number) []
