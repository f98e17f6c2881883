-- Why a competition is not imported (the project's own).
use Rattle.std.specs.Prelude.{◌≡◌, ◌≢◌, List, []}
use Rattle.wcif.specs.declared.fault.CompetitionFault.{CompetitionFault}
use Rattle.wcif.specs.declared.importing.ImportFault.{ImportFault}
use Rattle.wcif.specs.declared.importing.ImportFault.TheVariants.{Refused, NoMemory}

-- a desk cannot hold all of it, and these are the faults; want of memory is none of them
abbrev pub Refuses : List CompetitionFault → ImportFault → Type 0
Refuses faults (Refused found) = (found.items ≡ faults) × (faults ≢ [])
Refuses faults NoMemory = Unit {0}
