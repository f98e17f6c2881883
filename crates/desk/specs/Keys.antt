-- What an exit status says of a key that was to be made (the project's own).
use Rattle.std.specs.Prelude.{◌≡◌, ◌⊎◌, ℕ, List, Option, None, Some}
use Rattle.std.specs.Io.KnownBytes.{Keeps}
use Rattle.desk_requests.specs.{Statuses.status_of, declared.fault.DeskFault.DeskFault}
use Rattle.keys.specs.{key_file.KeyFiles.PrintsSomeKey, declared.key_file.fault.MakeFault.MakeFault}
use Rattle.desk_requests.specs.declared.fault.DeskFault.TheVariants as fault
use Rattle.keys.specs.declared.key_file.fault.MakeFault.TheVariants as making
use Rattle.lines.specs.declared.fault.RunFault.TheVariants as run

-- the fault of a key that is not made
abbrev pub fault_of_making : MakeFault → DeskFault
fault_of_making making.NoRandom = fault.Run run.Read
fault_of_making making.IsThere = fault.KeyThere
fault_of_making making.CannotWrite = fault.Run run.Write
fault_of_making making.NoMemory = fault.Run run.NoMemory

-- a key was made in a file of its own, and then nothing was printed, or it was printed
abbrev pub IsMade : Option (List ℕ) → (old new : Option (List ℕ)) → Type 0
IsMade (Some file) old new = Keeps old new
IsMade None old new = PrintsSomeKey old new

-- none was made in a file, and nothing was printed, or it was not printed whole
abbrev pub IsUnmade : Option (List ℕ) → (old new : Option (List ℕ)) → Type 0
IsUnmade (Some file) old new = Keeps old new
IsUnmade None old new = Unit {0}

abbrev pub EndsKey : Option (List ℕ) → ℕ → (old new : Option (List ℕ)) → Type 0
EndsKey file status old new =
    ((status ≡ 0) × IsMade file old new)
    ⊎ ((e : MakeFault) × (status ≡ status_of (fault_of_making e)) × IsUnmade file old new)
