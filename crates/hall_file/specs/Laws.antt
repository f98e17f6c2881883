-- What a file says, and why it is refused, leave no choice (the project's own).
use Rattle.std.specs.Prelude.{◌≡◌, ℕ, List, Option}
use Rattle.hall_file.specs.Files.{SaysHall, Refuses}
use Rattle.hall_file.specs.declared.fault.HallFault.{HallFault, TheVariants.NoMemory}

-- a file says one hall at most
abbrev pub SaysOneHall : Type 0
SaysOneHall =
    (bytes : List ℕ) (hall other : ℕ) (desks others : List (List ℕ)) (key lock : Option (List ℕ))
    → SaysHall bytes hall desks key → SaysHall bytes other others lock
    → (hall ≡ other) × (desks ≡ others) × (key ≡ lock)

-- a file that says a hall is refused for want of memory alone
abbrev pub SaysOrIsRefused : Type 0
SaysOrIsRefused =
    (bytes : List ℕ) (hall : ℕ) (desks : List (List ℕ)) (key : Option (List ℕ)) (fault : HallFault)
    → SaysHall bytes hall desks key → Refuses bytes fault → fault ≡ NoMemory
