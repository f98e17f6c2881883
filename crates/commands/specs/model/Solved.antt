-- A model of the code: how it is noted for which attempts a solution was entered.
use Rattle.std.specs.Prelude.{◌≡◌, ℕ, ◌-◌, Bool, true, false, List, slice_index_or, is_some, Option}
use Rattle.std.specs.{Prelude.None, Prelude.Some, Prelude.nat_eq, HashMap.get}
use Rattle.commands.specs.declared.solutions.Solutions.{Solutions}

-- the flag of an attempt in the row of a number, where it has one
abbrev pub is_set_in : ℕ → Option (List Bool) → Bool
is_set_in k None = false
is_set_in k (Some row) = slice_index_or row (k - 1) false

-- a solution is noted for an attempt of a number
abbrev pub is_noted : Solutions → ℕ → ℕ → Bool
is_noted s n k = is_set_in k (get nat_eq s.by_number n)

-- a number has a row
abbrev pub HasRow : Solutions → ℕ → Type 0
HasRow s n = is_some (get nat_eq s.by_number n) ≡ true

-- the same is noted
abbrev pub KeepsNotes : Solutions → Solutions → Type 0
KeepsNotes old new = (n k : ℕ) → is_noted new n k ≡ is_noted old n k
