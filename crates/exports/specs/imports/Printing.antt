-- What is printed of a competition's file, and what its faults leave (the project's own).
use Rattle.std.specs.Prelude.{◌≡◌, ℕ, ◌+◌, ◌++◌, List, take, Option, None, Some}
use Rattle.std.specs.Io.KnownBytes.{Appends, Keeps}
use Rattle.lines.specs.Bytes.{AppendsPart, HasLeft}
use Rattle.wcif.specs.{Files.FileFails, Files.SetsUp, Files.most_bytes, Later.later_lines}
use Rattle.wcif.specs.{Later.SaysLater, Lines.lines, declared.options.Options.Options}
use Rattle.wcif.specs.declared.{file.FileFault.FileFault, later.RoundImport.RoundImport}
use Rattle.texts.specs.declared.command.Command.{Command}
use Rattle.exports.specs.declared.imports.fault.ImportsFault.{ImportsFault}
use Rattle.wcif.specs.declared.file.FileFault.TheVariants as file
use Rattle.exports.specs.declared.imports.fault.ImportsFault.TheVariants as fault

-- all bytes that a reader has, where it tells them, or one more than a file may have
abbrev pub IsFront : Option (List ℕ) → List ℕ → Type 0
IsFront None bytes = Unit {0}
IsFront (Some all) bytes = bytes ≡ take (most_bytes + 1) all

-- the bytes set up a competition: this text is its commands, one a line, and what is to be known of
-- rounds that they do not open
pub record IsImported (options : Options) (bytes text : List ℕ) : Type 0 where
  pub made : List Command
  pub later : List RoundImport
  pub sets_up : SetsUp options bytes made
  pub says : SaysLater options bytes later
  pub is : text ≡ lines made ++ later_lines later

-- it was written
abbrev pub PrintsImport : Options → (had old new : Option (List ℕ)) → Type 0
PrintsImport options had old new =
    (bytes text : List ℕ) × HasLeft had bytes × IsImported options bytes text × Appends old new text

-- a front part of it was written
abbrev pub PrintsPart : Options → (had old new : Option (List ℕ)) → Type 0
PrintsPart options had old new =
    (bytes text : List ℕ) × HasLeft had bytes × IsImported options bytes text
    × AppendsPart old new text

-- the bytes give no commands for this reason
abbrev pub GivesNone : FileFault → Options → Option (List ℕ) → Type 0
GivesNone f options had = (bytes : List ℕ) × HasLeft had bytes × FileFails options bytes f

-- what each fault says of the bytes, and leaves: nothing is written but where a write fails
abbrev pub FailsImport : ImportsFault → Options → (had old new : Option (List ℕ)) → Type 0
FailsImport fault.Read options had old new = Keeps old new
FailsImport (fault.File f) options had old new = GivesNone f options had × Keeps old new
FailsImport fault.Write options had old new = PrintsPart options had old new
FailsImport fault.NoMemory options had old new = Keeps old new

-- 3 where the file gives no commands, 4 where a device failed, 5 where memory ran out
abbrev pub status_of : ImportsFault → ℕ
status_of fault.Read = 4
status_of (fault.File file.TooLong) = 3
status_of (fault.File (file.NotJson e)) = 3
status_of (fault.File file.TooDeep) = 3
status_of (fault.File (file.Refused found)) = 3
status_of (fault.File file.NoMemory) = 5
status_of fault.Write = 4
status_of fault.NoMemory = 5
