-- Commands from a competition's file (the project's own).
use Rattle.std.specs.Prelude.{◌≡◌, ℕ, List}
use Rattle.texts.specs.declared.command.Command.{Command}
use Rattle.wcif.specs.{declared.options.Options.Options, Files.FileFails, Files.SetsUp, Lines.lines}
use Rattle.command_lists.specs.declared.file.FileLines.{FileLines}
use Rattle.command_lists.specs.declared.file.FileLines.TheVariants.{Lines, Refused}

-- the lines are those of the commands that set the file's competition up; or it gives none, for
-- this reason
abbrev pub IsOfFile : Options → List ℕ → FileLines → Type 0
IsOfFile options bytes (Lines printed) =
    (commands : List Command) × SetsUp options bytes commands × (printed.items ≡ lines commands)
IsOfFile options bytes (Refused fault words) = FileFails options bytes fault
