-- The competition's file at the path that the arguments of a program name (the project's own).
use Rattle.std.specs.Prelude.{◌≡◌, ℕ, ◌+◌, ◌==◌, ◌||◌, Bool, true, false, length, List, take, ⊤}
use Rattle.std.specs.Prelude.{Option, None, Some, IfSome, IsSome}
use Rattle.wcif.specs.Files.{Holds, most_bytes}
use Rattle.wcif.specs.declared.file.FileFault.{TheVariants.NoMemory}
use Rattle.competition_file.specs.Files.{data_of, id_of}
use Rattle.competition_file.specs.declared.opening.OpenFault.{OpenFault}
use Rattle.competition_file.specs.declared.opening.OpenFault.TheVariants.{CannotRead, Unread}

-- bytes are those that are read of a file, where it is known what it holds: all, or one more than a
-- competition's file may have
abbrev pub IsReadOf : Option (List ℕ) → List ℕ → Type 0
IsReadOf content bytes = IfSome content (λ all. bytes ≡ take (most_bytes + 1) all)

-- reading a file fails so
abbrev pub is_of_reading : OpenFault → Bool
is_of_reading CannotRead = true
is_of_reading (Unread NoMemory) = true
is_of_reading _ = false

-- it is read as JSON, and has the id of a competition
abbrev pub IsCompetition : List ℕ → Type 0
IsCompetition file = Holds file (data_of file) × (length (id_of (data_of file)) == 0 ≡ false)

-- what a program gets: a competition's file where its arguments name one, and else none
abbrev pub IsGiven : Option (List ℕ) → Option (List ℕ) → Type 0
IsGiven None file = file ≡ None
IsGiven (Some path) None = ⊥
IsGiven (Some path) (Some file) = IsCompetition file

abbrev pub status_of : OpenFault → ℕ
status_of (Unread NoMemory) = 5
status_of _ = 3

-- the status where it gets none: only where its arguments name a file
abbrev pub IsRefused : Option (List ℕ) → ℕ → Type 0
IsRefused path status = IsSome path × ((status == 3 || status == 5) ≡ true)
