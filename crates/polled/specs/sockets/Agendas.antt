-- What is still to be named of a round (the project's own).
use Rattle.std.specs.Prelude.{◌≡◌, ◌⊎◌, ℕ, Bool, true, false, List, [], ◌∷◌, ◌++◌, Option, None}
use Rattle.std.specs.{Prelude.Some, List.Sorted.IsNonDecreasing}
use Rattle.polled.specs.declared.answers.Ready.{Ready}
use Rattle.polled.specs.declared.answers.Ready.TheVariants as ready

-- whether somebody waits to be accepted, and the peers that are ready
pub record AgendaOf : Type 0 where
  pub waits : Bool
  pub numbers : List ℕ

abbrev pub agenda : Bool → List ℕ → AgendaOf
agenda waits numbers = record { waits = waits; numbers = numbers }

abbrev pub with_number : AgendaOf → ℕ → AgendaOf
with_number a k = agenda a.waits (a.numbers ++ k ∷ [])

-- first that somebody waits is named, then the peers, one after the other, each once
abbrev pub Names : Option Ready → AgendaOf → AgendaOf → Type 0
Names None old new = (old ≡ agenda false []) × (new ≡ old)
Names (Some ready.Waits) old new = (old.waits ≡ true) × (new ≡ agenda false old.numbers)
Names (Some (ready.Peer k)) old new =
    (old.waits ≡ false) × (new.waits ≡ false) × (old.numbers ≡ k ∷ new.numbers)
Names (Some (ready.Round now)) old new = ⊥
Names (Some ready.Failed) old new = ⊥

-- ---- rounds

-- whether a round was begun and isn't over, and what of it is still to be named
pub record RoundOf : Type 0 where
  pub begun : Bool
  pub left : AgendaOf

abbrev pub round : Bool → AgendaOf → RoundOf
round begun left = record { begun = begun; left = left }

-- the round is over, or the system doesn't tell the time
abbrev pub IsOver : Ready → Type 0
IsOver ready.Waits = ⊥
IsOver (ready.Peer k) = ⊥
IsOver (ready.Round now) = Unit {0}
IsOver ready.Failed = Unit {0}

-- what is named next in a round of which this is left: what comes first, and where nothing is left,
-- that the round is over
abbrev pub GoesOn : Ready → AgendaOf → RoundOf → Type 0
GoesOn ready.Waits left new = (new.begun ≡ true) × Names (Some ready.Waits) left new.left
GoesOn (ready.Peer k) left new =
    (new.begun ≡ true) × Names (Some (ready.Peer k)) left new.left
GoesOn (ready.Round now) left new = (left ≡ agenda false []) × (new ≡ round false left)
GoesOn ready.Failed left new = (left ≡ agenda false []) × (new ≡ round false left)

-- the same of a round that begins now, whose peers are named in the order of their numbers; or
-- the system doesn't tell what is ready
abbrev pub Begins : Ready → RoundOf → Type 0
Begins r new =
    ((left : AgendaOf) × IsNonDecreasing left.numbers × GoesOn r left new)
    ⊎ ((r ≡ ready.Failed) × (new.begun ≡ false))

abbrev pub NamesIn : Bool → Ready → AgendaOf → RoundOf → Type 0
NamesIn true r left new = GoesOn r left new
NamesIn false r left new = Begins r new

abbrev pub NamesNext : Ready → RoundOf → RoundOf → Type 0
NamesNext r old new = NamesIn old.begun r old.left new
