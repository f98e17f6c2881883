-- Why the file at a path gives no hall (the project's own).
use Rattle.std.specs.Prelude.{◌≡◌, ℕ, List}
use Rattle.hall_file.specs.{Files.Refuses, declared.opening.HallOpenFault.HallOpenFault}
use Rattle.hall_file.specs.declared.opening.HallOpenFault.TheVariants.{CannotRead, Refused}

-- the fault names this path, and what a hall's file is refused for
abbrev pub IsOfPath : List ℕ → HallOpenFault → Type 0
IsOfPath path (CannotRead named) = named.now ≡ path
IsOfPath path (Refused named fault) = (named.now ≡ path) × (bytes : List ℕ) × Refuses bytes fault
