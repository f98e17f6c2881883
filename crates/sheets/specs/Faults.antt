-- Why there is no sheet (the project's own).
use Rattle.std.specs.Prelude.{◌≡◌, ℕ, true, List, Option, None, is_some}
use Rattle.sheets.specs.declared.SheetFault.{SheetFault}
use Rattle.sheets.specs.declared.SheetFault.TheVariants.{NoSuchRound, NoMemory}

-- no sheet was given: there is none, or there is one and memory ran out
abbrev pub NoSheet : SheetFault → Option (List ℕ) → Type 0
NoSheet NoSuchRound sheet = sheet ≡ None
NoSheet NoMemory sheet = is_some sheet ≡ true
