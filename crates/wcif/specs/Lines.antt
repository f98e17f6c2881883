-- Commands as lines (the project's own).
use Rattle.std.specs.Prelude.{ℕ, List, ◌++◌, codes, flat_map}
use Rattle.texts.specs.{declared.command.Command.Command, Spelling.spelling}

-- a command as it is spelled, and a line feed
abbrev pub line : Command → List ℕ
line command = spelling command ++ codes "\n"

abbrev pub lines : List Command → List ℕ
lines commands = flat_map line commands
