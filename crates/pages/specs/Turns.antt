-- The turns of browsers: what moved, and what the service was asked (the project's own).
use Rattle.std.specs.Prelude.{◌≡◌, ◌≢◌, ℕ, ◌==◌, if◌then◌else◌, Bool, List, [], ◌∷◌, ◌++◌, IsTrue}
use Rattle.std.specs.Prelude.{Option}
use Rattle.http.specs.declared.request.Request.{Request}
use Rattle.http_server.specs.declared.{connection.Connection.Connection, response.Response.Response}
use Rattle.http_server.specs.{Connection.history, Exchange.Calls}
use Rattle.http_server.specs.History.{History, new_history}
use Rattle.polled.specs.{Telling.Tells, Happenings.Happened}
use Rattle.pages.specs.Happenings.{gave, took}

-- ---- one browser

-- These happened at browser k alone. Its connection heard the bytes that it gave, but for some that
-- were lost, and the bytes that it took are those that the connection handed out.
pub record Moves (k : ℕ) (more : List Happened) (old new : History) (lost : List ℕ) : Type 0 where
  pub others : (j : ℕ) → j ≢ k → (gave j more ≡ []) × (took j more ≡ [])
  pub heard : new.received ++ lost ≡ old.received ++ gave k more
  pub handed : new.sent ≡ old.sent ++ took k more

-- the same as it is told; bytes are lost only where the connection ends
abbrev pub Moved : ℕ → Bool → Option (List Happened) → Option (List Happened) → History → History
    → Type 0
Moved k goes_on a b old new =
    (more : List Happened) × (lost : List ℕ) × Tells a b more × Moves k more old new lost
    × (IsTrue goes_on → lost ≡ [])

-- The connection heard these bytes, but for some that were lost for want of memory. It answered
-- nothing and handed nothing out.
pub record Hears (whole : Bool) (bytes : List ℕ) (old new : History) : Type 0 where
  pub lost : List ℕ
  pub heard : new.received ++ lost ≡ old.received ++ bytes
  pub none_lost : IsTrue whole → lost ≡ []
  pub sent : new.sent ≡ old.sent
  pub calls : new.calls ≡ old.calls

-- ---- the turns of all

-- the number of a browser, and its connection as a turn of it left it
abbrev pub Turn : Type 0
Turn = ℕ × Connection

-- the history of browser k after these turns, where it was this before
abbrev pub history_from : ℕ → History → List Turn → History
history_from k h [] = h
history_from k h (t ∷ ts) = history_from k (if t.0 == k then history t.1 else h) ts

-- the history of browser k after these turns
abbrev pub history_at : ℕ → List Turn → History
history_at k ts = history_from k new_history ts

-- The service answered the requests of these turns, one after the other, whichever browsers they
-- are of: the calls of each turn lead from the state that the turn before left.
abbrev pub AreTurns : {S : Type 0} → (S → Request (List ℕ) → Response → S → Type 0) → S
    → List Turn → List Turn → S → Type 0
AreTurns answers old before [] new = new ≡ old
AreTurns {S} answers old before (t ∷ ts) new =
    (next : S) × Calls answers old next (history_at t.0 before).calls (history t.1).calls
    × AreTurns answers next (before ++ t ∷ []) ts new

-- the turns go on by some, which the service answered from the one state to the other
abbrev pub Answers : {S : Type 0} → (S → Request (List ℕ) → Response → S → Type 0) → S → S
    → List Turn → List Turn → Type 0
Answers answers old new before after =
    (more : List Turn) × (after ≡ before ++ more) × AreTurns answers old before more new
