-- What becomes of the competition's file of a program when a newer one is read (the project's own).
use Rattle.std.specs.Prelude.{◌≡◌, ℕ, List, Option, None, Some, true}
use Rattle.competition_file.specs.Files.{RenewFails, data_of, is_same}
use Rattle.competition_file.specs.declared.file.RenewFault.{RenewFault}

-- a newer file of the same competition takes the place of the one before, where there was one
abbrev pub Renews : Option (List ℕ) → List ℕ → Option (List ℕ) → Type 0
Renews None bytes new = new ≡ None
Renews (Some file) bytes new =
    (new ≡ Some bytes) × (is_same (data_of file) (data_of bytes) ≡ true)

-- why it does not take the place of the one before
abbrev pub RenewFailsFor : Option (List ℕ) → List ℕ → RenewFault → Type 0
RenewFailsFor None bytes why = ⊥
RenewFailsFor (Some file) bytes why = RenewFails bytes file why
