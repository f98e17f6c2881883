-- One item of the list of desks, after those in front of it: what the clauses of the private
-- functions that read the list cite (the project's own).
use Rattle.std.specs.Prelude.{◌≡◌, ◌+◌, ℕ, List, length, bytes_eq, true, false, None}
use Rattle.std.specs.List.{list_any}
use Rattle.toml.specs.Data.{Data, string, as_str}
use Rattle.hall_file.specs.{Addresses.IsAddress, Members.FailsDesks}
use Rattle.hall_file.specs.declared.fault.{DesksFault.DesksFault, DesksStop.DesksStop}
use Rattle.hall_file.specs.declared.fault.DesksFault.TheVariants.{NotList, BadCount, NotText}
use Rattle.hall_file.specs.declared.fault.DesksFault.TheVariants.{NotAddress, Twice}
use Rattle.hall_file.specs.declared.fault.DesksStop.TheVariants.{Fault, NoMemory}

-- the item is an address that none of the desks in front has
pub record IsNext (front : List (List ℕ)) (item : Data) (text : List ℕ) : Type 0 where
  pub value : item ≡ string text
  pub address : IsAddress text
  pub fresh : list_any (bytes_eq text) front ≡ false

-- why the item is no such address
abbrev pub FailsNext : List (List ℕ) → Data → DesksFault → Type 0
FailsNext front item NotList = ⊥
FailsNext front item (BadCount n) = ⊥
FailsNext front item (NotText k) = (k ≡ length front + 1) × (as_str item ≡ None)
FailsNext front item (NotAddress k) =
    (k ≡ length front + 1) × (text : List ℕ) × (item ≡ string text) × (IsAddress text → ⊥)
FailsNext front item (Twice k) =
    (k ≡ length front + 1) × (text : List ℕ) × (item ≡ string text) × IsAddress text
    × (list_any (bytes_eq text) front ≡ true)

-- why the addresses of a hall's desks are not had
abbrev pub StopsDesks : Data → DesksStop → Type 0
StopsDesks d (Fault fault) = FailsDesks d fault
StopsDesks d NoMemory = Unit {0}
