-- What each browser of many was handed (the project's own).
use Rattle.std.specs.Prelude.{◌≡◌, ℕ, List, ◌++◌, Option, None, Some, ⊤}
use Rattle.http_server.specs.{declared.state.Config.Config, History.History, History.IsServed}
use Rattle.pages.specs.{Happenings.gave, Happenings.took, Turns.Turn, Turns.history_at}
use Rattle.polled.specs.Happenings.{Happened}

-- The browser took what its connection handed out, no more and no less. What the connection heard
-- is first in what the browser gave.
pub record IsMoved (k : ℕ) (hs : List Happened) (h : History) : Type 0 where
  pub taken : took k hs ≡ h.sent
  pub given : (lost : List ℕ) × (gave k hs ≡ h.received ++ lost)

-- the same where it is known what happened
abbrev pub IsMovedAsTold : ℕ → Option (List Happened) → History → Type 0
IsMovedAsTold k None h = ⊤
IsMovedAsTold k (Some hs) h = IsMoved k hs h

-- What the connection handed out is a front part of the answers to the requests that it heard, in
-- order, as `http_server` says it of one connection, and this is what the browser took.
pub record IsAnswered (config : Config) (k : ℕ) (told : Option (List Happened)) (h : History)
    : Type 0 where
  pub served : ∥ IsServed config h ∥₁
  pub moved : IsMovedAsTold k told h

-- of each browser that ever came
abbrev pub EachIsAnswered : Config → Option (List Happened) → List Turn → Type 0
EachIsAnswered config told ts = (k : ℕ) → IsAnswered config k told (history_at k ts)
