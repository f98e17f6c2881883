-- A model of the code: what its readers of fields returned, beside what the fields are.
use Rattle.std.specs.Prelude.{◌≡◌, ◌≤◌, ◌<◌, ◌⊎◌, ℕ, ◌++◌, IsTrue, List, Option, Some, None}
use Rattle.std.specs.Prelude.{is_some, Result, Ok, Err}
use Rattle.std.specs.{Borrow.Bor, List.list_any, Option.option_copied}
use Rattle.texts.specs.declared.command.{Entered.Entered, RemarkedCommand.RemarkedCommand}
use Rattle.texts.specs.declared.{reading.CommandFault.CommandFault, table.FieldKind.FieldKind}
use Rattle.texts.specs.{declared.value.FieldValue.FieldValue, Fields.IsSolution}
use Rattle.texts.specs.{Reading.takes_memory, Table.is_kept, Table.is_rest, Table.kept_at}
use Rattle.texts.specs.declared.reading.CommandFault.TheVariants as fault

-- a field that was read, and what is left of the text after it
abbrev pub Next : Type 0
Next = FieldValue × Option (List ℕ)

abbrev pub with_rest : FieldValue × Option (Bor (List ℕ)) → Next
with_rest read = (read.0, option_copied read.1)

-- memory is taken for a solution; where it is misspelt, memory may run out first
abbrev pub MayBeSolution : Option Entered → Type 0
MayBeSolution None = Unit {0}
MayBeSolution (Some outcome) = IsSolution outcome

-- memory is taken for a field while it is read, or for all that is left of a text, once that is
-- known to be a name
abbrev pub TakesForValue : FieldKind → Option FieldValue → Type 0
TakesForValue k None = IsTrue (is_kept k)
TakesForValue k (Some v) = IsTrue (takes_memory v) × (IsTrue (is_kept k) ⊎ IsTrue (is_rest k))

-- the same of the next field
abbrev pub TakesForNext : FieldKind → ℕ → Result Next CommandFault → Type 0
TakesForNext k index (Ok n) =
    IsTrue (takes_memory n.0) × (IsTrue (is_kept k) ⊎ (IsTrue (is_rest k) × (n.1 ≡ None)))
TakesForNext k index (Err e) = IsTrue (is_kept k) × (e ≡ fault.BadField index)

abbrev pub GivesNext : FieldKind → ℕ → Result (FieldValue × Option (Bor (List ℕ))) CommandFault
    → Result Next CommandFault → Type 0
GivesNext k index (Ok read) said = said ≡ Ok (with_rest read)
GivesNext k index (Err fault.NoMemory) said = TakesForNext k index said
GivesNext k index (Err e) said = said ≡ Err e

-- the same of all fields
abbrev pub TakesForValues : List FieldKind → Result (List FieldValue) CommandFault → Type 0
TakesForValues ks (Ok vs) = IsTrue (list_any takes_memory vs)
TakesForValues ks (Err (fault.BadField index)) = (0 < kept_at 1 ks) × (kept_at 1 ks ≤ index)
TakesForValues _ _ = ⊥

abbrev pub GivesValues : {X : Type 0} → (X → List FieldValue) → List FieldKind
    → Result X CommandFault → Result (List FieldValue) CommandFault → Type 0
GivesValues view ks (Ok vs) said = said ≡ Ok (view vs)
GivesValues view ks (Err fault.NoMemory) said = TakesForValues ks said
GivesValues view ks (Err e) said = said ≡ Err e

-- the same of the remark: memory is taken for one that is right
abbrev pub TakesForRemark : Result RemarkedCommand CommandFault → Type 0
TakesForRemark (Ok c) = IsTrue (is_some c.remark)
TakesForRemark (Err e) = ⊥

abbrev pub GivesRemark : Result RemarkedCommand CommandFault → Result RemarkedCommand CommandFault
    → Type 0
GivesRemark (Ok c) said = said ≡ Ok c
GivesRemark (Err fault.NoMemory) said = TakesForRemark said
GivesRemark (Err e) said = said ≡ Err e

-- the values so far, in front of the later ones
abbrev pub after : List FieldValue → Result (List FieldValue) CommandFault
    → Result (List FieldValue) CommandFault
after vs (Ok later) = Ok (vs ++ later)
after vs (Err e) = Err e
