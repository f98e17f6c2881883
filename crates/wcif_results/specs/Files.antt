-- A competition's file read, and written with the results of a meet (the project's own).
use Rattle.std.specs.Prelude.{◌≡◌, ◌≢◌, ◌≤◌, ◌<◌, ℕ, List, [], length, Option, Some, None}
use Rattle.std.specs.Str.{IsUtf8}
use Rattle.json.specs.{Json.Json, Json.document, Print.print, Tree.depth, Tree.json_tokens}
use Rattle.texts.specs.declared.command.Command.{Command}
use Rattle.wcif.specs.Files.{most_bytes, most_levels, without_mark}
use Rattle.wcif_results.specs.{declared.exporting.ExportFault.ExportFault, Faults.faults}
use Rattle.wcif_results.specs.declared.exporting.Findings.{Findings}
use Rattle.wcif_results.specs.declared.exporting.ExportFault.TheVariants.{TooLong, NotJson, TooDeep}
use Rattle.wcif_results.specs.declared.exporting.ExportFault.TheVariants.{Refused, NoMemory}
use Rattle.wcif_results.specs.{Filled.filled, Notes.notes, declared.note.ExportNote.ExportNote}

-- the file is within the limits, and this is its JSON value
pub record Holds (bytes : List ℕ) (d : Json) : Type 0 where
  pub short : length bytes ≤ most_bytes
  pub utf8 : IsUtf8 (without_mark bytes)
  pub value : document (without_mark bytes) ≡ Some d
  pub shallow : depth d ≤ most_levels

-- a text of the value, without white space, that reads back as the value
pub record IsTextOf (text : List ℕ) (d : Json) : Type 0 where
  pub printed : text ≡ print (json_tokens d)
  pub reads_back : document text ≡ Some d
  pub utf8 : IsUtf8 text

-- the file has a place for all of the meet, and the text is the file with the meet's results
abbrev pub Exports : List Command → List ℕ → List ℕ → Type 0
Exports cs bytes text =
    (d : Json) × Holds bytes d × (faults cs d ≡ []) × IsTextOf text (filled cs d)

-- what is told of it
abbrev pub HasNotes : List Command → List ℕ → List ExportNote → Type 0
HasNotes cs bytes told =
    (d : Json) × (document (without_mark bytes) ≡ Some d) × (told ≡ notes cs d)

-- the fault says that the file is no JSON
abbrev pub IsNotJson : ExportFault → Type 0
IsNotJson (NotJson line column) = Unit {0}
IsNotJson _ = ⊥

-- why a file is not read
abbrev pub ReadFails : List ℕ → ExportFault → Type 0
ReadFails bytes TooLong = most_bytes < length bytes
ReadFails bytes (NotJson line column) =
    (length bytes ≤ most_bytes)
    × (IsUtf8 (without_mark bytes) → document (without_mark bytes) ≡ None)
ReadFails bytes TooDeep =
    (d : Json) × (length bytes ≤ most_bytes) × IsUtf8 (without_mark bytes)
    × (document (without_mark bytes) ≡ Some d) × (most_levels < depth d)
ReadFails bytes (Refused found) = ⊥
ReadFails bytes NoMemory = Unit {0}

-- why nothing is exported
abbrev pub ExportFails : List Command → List ℕ → ExportFault → Type 0
ExportFails cs bytes (Refused found) =
    (d : Json) × Holds bytes d × (found.items ≡ faults cs d) × (faults cs d ≢ [])
ExportFails cs bytes fault = ReadFails bytes fault

-- what an export of the meet over the file would be refused for, and what it would be told, whether
-- or not it is refused; nothing only where the bytes hold no value
abbrev pub AreFindings : List Command → List ℕ → Option Findings → Type 0
AreFindings cs bytes None = (d : Json) → Holds bytes d → ⊥
AreFindings cs bytes (Some found) =
    (d : Json) × Holds bytes d × (found.faults.items ≡ faults cs d)
    × (found.notes.items ≡ notes cs d)
