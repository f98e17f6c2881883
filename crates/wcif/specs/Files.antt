-- A competition from the bytes of a file: JSON in UTF-8, within limits (the project's own).
use Rattle.std.specs.Prelude.{◌≡◌, ◌≢◌, ◌≤◌, ◌<◌, ℕ, if◌then◌else◌, List, [], ◌∷◌, length, take}
use Rattle.std.specs.{Prelude.drop, Prelude.bytes_eq, Prelude.Some, Prelude.None, Str.IsUtf8}
use Rattle.serde_json.specs.{Data.Data, Data.depth, Read.read}
use Rattle.texts.specs.declared.command.Command.{Command}
use Rattle.wcif.specs.{declared.options.Options.Options, Commands.commands, Faults.faults}
use Rattle.wcif.specs.declared.file.FileFault.{FileFault, TheVariants.NoMemory}
use Rattle.wcif.specs.declared.file.FileFault.TheVariants.{TooLong, NotJson, TooDeep, Refused}

-- 64 MiB
abbrev pub most_bytes : ℕ
most_bytes = 67108864

abbrev pub most_levels : ℕ
most_levels = 64

-- a byte-order mark at the front is dropped
unfoldable pub without_mark : List ℕ → List ℕ
without_mark bytes = if bytes_eq (take 3 bytes) (239 ∷ 187 ∷ 191 ∷ []) then drop 3 bytes else bytes

-- the file is within the limits, and this is its JSON value
pub record Holds (bytes : List ℕ) (d : Data) : Type 0 where
  pub short : length bytes ≤ most_bytes
  pub utf8 : IsUtf8 (without_mark bytes)
  pub value : read (without_mark bytes) ≡ Some d
  pub shallow : depth d ≤ most_levels

-- the file is of a competition that these commands set up
abbrev pub SetsUp : Options → List ℕ → List Command → Type 0
SetsUp options bytes made =
    (d : Data) × Holds bytes d × (faults options d ≡ []) × (made ≡ commands options d)

-- why a file is not read
abbrev pub ReadFails : List ℕ → FileFault → Type 0
ReadFails bytes TooLong = most_bytes < length bytes
ReadFails bytes (NotJson fault) =
    (length bytes ≤ most_bytes) × (IsUtf8 (without_mark bytes) → read (without_mark bytes) ≡ None)
ReadFails bytes TooDeep =
    (d : Data) × (length bytes ≤ most_bytes) × IsUtf8 (without_mark bytes)
    × (read (without_mark bytes) ≡ Some d) × (most_levels < depth d)
ReadFails bytes (Refused found) = ⊥
ReadFails bytes NoMemory = Unit {0}

-- why a file gives no commands
abbrev pub FileFails : Options → List ℕ → FileFault → Type 0
FileFails options bytes TooLong = ReadFails bytes TooLong
FileFails options bytes (NotJson fault) = ReadFails bytes (NotJson fault)
FileFails options bytes TooDeep = ReadFails bytes TooDeep
FileFails options bytes (Refused found) =
    (d : Data) × Holds bytes d × (found.items ≡ faults options d) × (faults options d ≢ [])
FileFails options bytes NoMemory = Unit {0}
