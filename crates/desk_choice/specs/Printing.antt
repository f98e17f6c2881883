-- A hall's file, printed (the project's own).
use Rattle.std.specs.Prelude.{◌≡◌, ◌⊎◌, ◌<◌, ℕ, List, Option, None, length}
use Rattle.std.specs.Io.KnownBytes.{Appends, Keeps}
use Rattle.desk_requests.specs.declared.fault.DeskFault.{DeskFault}
use Rattle.hall_file.specs.{Files.SaysHall, Files.members_of, Files.most_bytes, Members.FailsDesks}
use Rattle.hall_file.specs.{Halls.data_of, Lines.IsDocument, declared.fault.DesksFault.DesksFault}
use Rattle.lines.specs.Bytes.{AppendsPart}
use Rattle.desk_requests.specs.declared.fault.DeskFault.TheVariants as fault
use Rattle.lines.specs.declared.fault.RunFault.TheVariants as run

-- a file that says this hall, and names no key, was written
abbrev pub PrintsHall : ℕ → List (List ℕ) → (old new : Option (List ℕ)) → Type 0
PrintsHall hall texts old new =
    (text : List ℕ) × SaysHall text hall texts None × Appends old new text

-- these are not the addresses of a hall's desks, or the file that describes it would be too long
abbrev pub IsNoHall : ℕ → List (List ℕ) → Type 0
IsNoHall hall texts =
    ((wrong : DesksFault) × FailsDesks (data_of texts) wrong)
    ⊎ ((text : List ℕ) × IsDocument text (members_of hall texts None) × (most_bytes < length text))

-- there is no such hall, or memory ran out, and nothing was written; or a front part of a file that
-- says the hall was
abbrev pub FailsToPrint : DeskFault → ℕ → List (List ℕ) → (old new : Option (List ℕ)) → Type 0
FailsToPrint f hall texts old new =
    ((f ≡ fault.BadHallFile) × IsNoHall hall texts × Keeps old new)
    ⊎ ((f ≡ fault.Run run.NoMemory) × Keeps old new)
    ⊎ ((f ≡ fault.Run run.Write) × (text : List ℕ) × SaysHall text hall texts None
    × AppendsPart old new text)
