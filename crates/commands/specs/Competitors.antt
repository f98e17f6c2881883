-- Who is registered, and under which name (the project's own).
use Rattle.std.specs.Prelude.{ℕ, Bool, false, not, ◌==◌, ◌&&◌, if◌then◌else◌, List, bytes_eq}
use Rattle.std.specs.Prelude.{is_some, Option, None, Some}
use Rattle.std.specs.{List.list_any, Option.option_map_or}
use Rattle.texts.specs.declared.command.Command.{Command, TheVariants.Register, TheVariants.Rename}
use Rattle.commands.specs.Standing.{standing}

-- the name that a command gives a number
abbrev pub name_given : ℕ → Command → Option (List ℕ)
name_given n (Register m name) = if m == n then Some name else None
name_given n _ = None

-- the other name that a command gives a number
abbrev pub renaming : ℕ → Command → Option (List ℕ)
renaming n (Rename m name) = if m == n then Some name else None
renaming n _ = None

-- the name of a number: the one under which it is registered, or the last other one
abbrev pub name_of : List Command → ℕ → Option (List ℕ)
name_of cs n = standing (name_given n) (renaming n) cs

abbrev pub is_registered : List Command → ℕ → Bool
is_registered cs n = is_some (name_of cs n)

-- a number has this name now
abbrev pub is_called : List Command → ℕ → List ℕ → Bool
is_called cs n name = option_map_or (bytes_eq name) (name_of cs n) false

-- a command registers another number, which has this name now
abbrev pub names_other : List Command → ℕ → List ℕ → Command → Bool
names_other cs n name (Register m given) = not (m == n) && is_called cs m name
names_other cs n name _ = false

-- another number has this name now
abbrev pub is_taken : List Command → ℕ → List ℕ → Bool
is_taken cs n name = list_any (names_other cs n name) cs
