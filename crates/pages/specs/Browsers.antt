-- Many browsers, as a contract sees them (the project's own).
use Rattle.std.specs.Prelude.{◌≡◌, ℕ, List, [], Option, None, Some, ⊤}
use Rattle.http.specs.declared.request.Request.{Request}
use Rattle.http_server.specs.declared.response.Response.{Response}
use Rattle.pages.specs.{declared.browsers.Browsers.Browsers, Musts.IsFresh, Handed.EachIsAnswered}
use Rattle.pages.specs.declared.table.{BrowserTable.BrowserTable, BrowserLimits.BrowserLimits}
use Rattle.polled.specs.Happenings.{Happened}
use Rattle.pages.specs.Turns.{Turn, Answers}
use Rattle.polled.specs.declared.peers.Sockets as sockets

-- the browsers whose connections are open, and how many came
abbrev pub table_of : {C : Type 0} {g : sockets.Ghosts C} → Browsers C g → BrowserTable C
table_of b = b.table

abbrev pub sockets_of : {C : Type 0} {g : sockets.Ghosts C} → Browsers C g → C
sockets_of b = b.table.sockets

abbrev pub terms_of : {C : Type 0} {g : sockets.Ghosts C} → Browsers C g → BrowserLimits
terms_of b = b.table.terms

-- the turns that browsers had: the number of the browser, and its connection as the turn left it
abbrev pub turns_of : {C : Type 0} {g : sockets.Ghosts C} → Browsers C g → List Turn
turns_of b = b.table.turns.items

-- nothing has happened at the sockets, where that is known
abbrev pub IsUntold : Option (List Happened) → Type 0
IsUntold None = ⊤
IsUntold (Some hs) = hs ≡ []

-- no browser had a turn
abbrev pub IsNew : {C : Type 0} {g : sockets.Ghosts C} → BrowserLimits → C → Browsers C g → Type 0
IsNew terms sockets b =
    (terms_of b ≡ terms) × (sockets_of b ≡ sockets) × (turns_of b ≡ []) × IsFresh (table_of b)

-- In a round browsers had turns, and the service was called for their requests, one after the
-- other, whichever browsers these were of, and led from the one state to the other.
pub record Served {C S : Type 0} {g : sockets.Ghosts C}
    (answers : S → Request (List ℕ) → Response → S → Type 0) (before after : S)
    (old new : Browsers C g) : Type 0 where
  pub terms : terms_of new ≡ terms_of old
  pub answered : ∥ Answers answers before after (turns_of old) (turns_of new) ∥₁

abbrev pub EachBrowserIsAnswered : {C : Type 0} {g : sockets.Ghosts C}
    → (C → Option (List Happened)) → Browsers C g → Type 0
EachBrowserIsAnswered happened b =
    ∥ EachIsAnswered (terms_of b).config (happened (sockets_of b)) (turns_of b) ∥₁
