-- What holds of many browsers between two steps (the project's own).
use Rattle.std.specs.Prelude.{◌≡◌, ◌≤◌, ◌<◌, ℕ, nat_eq, List, [], ◌++◌, Option, None, Some, ⊤}
use Rattle.indexmap.specs.IndexMap.{get}
use Rattle.http.specs.declared.request.Request.{Request}
use Rattle.http_server.specs.declared.{connection.Connection.Connection, response.Response.Response}
use Rattle.http_server.specs.{declared.state.Config.Config, History.History, History.IsServed}
use Rattle.http_server.specs.{Connection.config_of, Connection.history, History.new_history}
use Rattle.pages.specs.declared.table.{Browser.Browser, BrowserTable.BrowserTable}
use Rattle.pages.specs.{declared.table.BrowserLimits.BrowserLimits, Happenings.gave}
use Rattle.pages.specs.{Happenings.took, Turns.Answers, Turns.Turn, Turns.history_at}
use Rattle.polled.specs.Happenings.{Happened}

-- ---- one browser

-- what it gave is what its connection heard, where it is known
abbrev pub IsHeard : ℕ → Option (List Happened) → History → Type 0
IsHeard k None h = ⊤
IsHeard k (Some hs) h = gave k hs ≡ h.received

-- the connection of a browser is open, and its history is that of the browser
pub record IsOpen (config : Config) (a : Option (List Happened)) (next : ℕ) (turns : List Turn)
    (k : ℕ) (c : Connection) : Type 0 where
  pub came : k < next
  pub at : history c ≡ history_at k turns
  pub limits : config_of c ≡ config
  pub heard : IsHeard k a (history c)

-- ---- all

-- what each browser took and gave
pub record IsToldOf (hs : List Happened) (turns : List Turn) (next : ℕ) : Type 0 where
  pub taken : (k : ℕ) → took k hs ≡ (history_at k turns).sent
  pub given : (k : ℕ) → (lost : List ℕ) × (gave k hs ≡ (history_at k turns).received ++ lost)
  pub fresh : (k : ℕ) → next ≤ k → gave k hs ≡ []

abbrev pub IsTold : Option (List Happened) → List Turn → ℕ → Type 0
IsTold None turns next = ⊤
IsTold (Some hs) turns next = IsToldOf hs turns next

-- the browsers by their numbers
abbrev pub Places : Type 0
Places = ℕ → Option Browser

pub record AreKept (config : Config) (a : Option (List Happened)) (places : Places) (next : ℕ)
    (turns : List Turn) : Type 0 where
  pub served : (k : ℕ) → ∥ IsServed config (history_at k turns) ∥₁
  pub fresh : (k : ℕ) → next ≤ k → history_at k turns ≡ new_history
  pub told : IsTold a turns next
  pub each : (k : ℕ) (b : Browser) → places k ≡ Some b → IsOpen config a next turns k b.connection

-- ---- a table

abbrev pub places_of : {C : Type 0} → BrowserTable C → Places
places_of t k = get nat_eq t.browsers k

abbrev pub Holds : {C : Type 0} → (C → Option (List Happened)) → BrowserTable C → Type 0
Holds happened t =
    AreKept t.terms.config (happened t.sockets) (places_of t) t.next t.turns.items

abbrev pub Keeps : {C : Type 0} → (C → Option (List Happened)) → BrowserTable C → BrowserTable C
    → Type 0
Keeps happened old new = Holds happened old → Holds happened new

-- the same where a browser that has no place may be given one
abbrev pub KeepsWith : {C : Type 0} → (C → Option (List Happened)) → ℕ → Browser → BrowserTable C
    → BrowserTable C → Type 0
KeepsWith happened k b old new =
    IsOpen old.terms.config (happened old.sockets) old.next old.turns.items k b.connection
    → Holds happened old → Holds happened new

-- the service answered the requests of turns that were added
abbrev pub AnswersIn : {C S : Type 0} → (C → Option (List Happened))
    → (S → Request (List ℕ) → Response → S → Type 0) → S → S → BrowserTable C → BrowserTable C
    → Type 0
AnswersIn happened answers before after old new =
    Holds happened old → Answers answers before after old.turns.items new.turns.items

-- none has come yet
pub record IsFirst {C : Type 0} (wanted : BrowserLimits) (given : C)
    (t : BrowserTable C) : Type 0 where
  pub terms : t.terms ≡ wanted
  pub sockets : t.sockets ≡ given
  pub none : t.browsers.entries ≡ []
  pub next : t.next ≡ 0
  pub time : t.now ≡ 0
  pub turns : t.turns.items ≡ []

-- the terms, how many came, and the turns
pub record StaysSame {C : Type 0} (old new : BrowserTable C) : Type 0 where
  pub terms : new.terms ≡ old.terms
  pub next : new.next ≡ old.next
  pub turns : new.turns ≡ old.turns
