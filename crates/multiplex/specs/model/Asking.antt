-- What is asked in the parts of a step.
use Rattle.std.specs.Prelude.{◌≡◌, ◌⊎◌, ℕ, List, [], ◌∷◌, ◌++◌, length, slice_index_or, Option}
use Rattle.std.specs.{Prelude.None, Prelude.Some, List.AllByRecursion}
use Rattle.guarded.specs.LockedConnections.{LockedConnectionOf}
use Rattle.multiplex.specs.Musts.{IsMove, IsWatched, IsWoken}
use Rattle.answers.specs.Seen.{Seen}
use Rattle.store.specs.declared.home.Home.{Home}
use Rattle.polled.specs.Requests.{Request, Reading, Writing, Closing}
use Rattle.polled.specs.declared.answers.{ReadOutcome.ReadOutcome, WriteOutcome.WriteOutcome}
use Rattle.multiplex.specs.declared.{ends.EndReason.EndReason, table.Guest.Guest}

-- one thing alone is asked
abbrev pub Offers : ℕ → List ℕ → List Request → Type 0
Offers k output asked = (t : WriteOutcome) × (asked ≡ Writing k (length output) t ∷ [])

abbrev pub Hears : ℕ → List Request → Type 0
Hears k asked = (g : ReadOutcome) × (asked ≡ Reading k g ∷ [])

abbrev pub AsksMove : ℕ → LockedConnectionOf → List Request → Type 0
AsksMove k c asked = IsMove k c asked

-- it is asked first, and then anything
abbrev pub BeginsWithMove : ℕ → LockedConnectionOf → List Request → Type 0
BeginsWithMove k c asked =
    (first : List Request) × IsMove k c first × ((more : List Request) × (asked ≡ first ++ more))

-- anything
abbrev pub AsksSome : List Request → Type 0
AsksSome asked = Unit {0}

-- what is asked last of a client that stays
abbrev pub IsWatchedIf : ℕ → Guest → Guest → Option EndReason → List Request → Type 0
IsWatchedIf k old g None last = IsWatched k old g last
IsWatchedIf k old g (Some w) last = last ≡ []

-- a client has its turn, before and after which its connection is so
pub record AsksHosted (k : ℕ) (old new : Guest) (fate : Option EndReason) (asked : List Request)
    : Type 0 where
  pub first : List Request
  pub move : IsMove k old.talk first
  pub more : List Request
  pub last : List Request
  pub watched : IsWatchedIf k old new fate last
  pub all : asked ≡ first ++ (more ++ last)

-- the connection of the client at this place is ended
pub record ClosesAt (place : ℕ) (guests : List Guest) (asked : List Request) : Type 0 where
  pub gone : Guest
  pub at : (d : Guest) → slice_index_or guests place d ≡ gone
  pub all : asked ≡ Closing gone.number ∷ []

-- that of the client that came, or none
abbrev pub MayClose : ℕ → List Request → Type 0
MayClose k asked = (asked ≡ []) ⊎ (asked ≡ Closing k ∷ [])

-- all are woken whose Await is to be answered
abbrev pub WakesAll : Home → Seen → ℕ → List Guest → List Request → Type 0
WakesAll home x time guests asked = AllByRecursion (IsWoken home x time asked) guests

-- of those that are still there too, whatever was asked
abbrev pub KeepsWoken : List Guest → List Guest → Type 0
KeepsWoken old new =
    (home : Home) (x : Seen) (time : ℕ) (asked : List Request)
    → WakesAll home x time old asked → WakesAll home x time new asked
