-- Why the file of a hall gives none (the project's own).
use Rattle.std.specs.Prelude.{◌≡◌, ◌⊎◌}
use Rattle.desk_requests.specs.declared.fault.DeskFault.{DeskFault}
use Rattle.desk_requests.specs.declared.fault.DeskFault.TheVariants as fault
use Rattle.lines.specs.declared.fault.RunFault.TheVariants as run

-- it is no hall's file or cannot be read, or memory ran out
abbrev pub IsOfFile : DeskFault → Type 0
IsOfFile f = (f ≡ fault.BadHallFile) ⊎ (f ≡ fault.Run run.NoMemory)
