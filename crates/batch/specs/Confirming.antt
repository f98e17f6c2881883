-- The entry that a desk has decided: whether it is the command that was entered (the project's
-- own).
use Rattle.std.specs.Prelude.{◌≡◌, ◌≢◌, ◌⊎◌, ◌∷◌, [], ℕ, List, Result, Ok, Err}
use Rattle.acceptor.specs.declared.entry.Entry.{Entry}
use Rattle.client.specs.declared.fault.ClientFault.TheVariants.{NoAnswer}
use Rattle.wire.specs.declared.{frame.FrameBody.FrameBody, values.CommandState.TheVariants.Done}
use Rattle.batch.specs.{Asking.IsAnswer, Asking.log_of, Dialing.Asked, Dialing.asked_so}
use Rattle.batch.specs.Watching.{Another, Notice}
use Rattle.batch.specs.declared.{asking.Receiver.Receiver, fault.BatchFault.BatchFault}
use Rattle.wire.specs.declared.frame.FrameBody.TheVariants as what
use Rattle.batch.specs.declared.fault.BatchFault.TheVariants as fault

-- a text with its id, as an entry
abbrev pub entry_of : ℕ → List ℕ → Entry
entry_of id text = record { id = id; text = text }

-- the answer says that the command is in the log at this position
abbrev pub IsDecidedAt : ℕ → FrameBody → Type 0
IsDecidedAt pos answer = (id : ℕ) × (said : _) × (answer ≡ what.Told id (Done pos said))

-- the first entry that the answer has is this one
abbrev pub HasFirst : FrameBody → Entry → Type 0
HasFirst answer entry =
    (from len : ℕ) × (more : List Entry) × (answer ≡ what.Entries from len (entry ∷ more))

-- the answer is one to the request for the desk's log from this position on, and the first entry
-- that it has, which is the one at the position, is this one
abbrev pub IsEntryAt : Receiver → ℕ → Entry → FrameBody → Type 0
IsEntryAt r pos entry answer = IsAnswer (log_of r pos) answer × HasFirst answer entry

-- the desk was asked for its log at the position at which it has reported the command to be, and
-- the entry there is this id and this text
pub record IsConfirmed (r : Receiver) (id : ℕ) (text : List ℕ) (told : FrameBody)
    (asked : List Asked) : Type 0 where
  pub pos : ℕ
  pub answer : FrameBody
  pub stands : IsDecidedAt pos told
  pub own : IsEntryAt r pos (entry_of id text) answer
  pub parts : asked ≡ asked_so (log_of r pos) (Ok answer) ∷ []

-- the request failed, or the entry at the position is another one, which the observer hears, or the
-- answer has none
abbrev pub IsNotOwn : BatchFault → Receiver → ℕ → Entry → Result FrameBody BatchFault
    → List Notice → Type 0
IsNotOwn f r pos own (Err e) heard = (f ≡ e) × (heard ≡ [])
IsNotOwn f r pos own (Ok answer) heard =
    ((f ≡ fault.AnotherCommand) × (entry : Entry) × IsEntryAt r pos entry answer × (entry ≢ own)
    × (heard ≡ Another entry ∷ []))
    ⊎ ((f ≡ fault.Asking NoAnswer) × ((entry : Entry) → ¬ HasFirst answer entry) × (heard ≡ []))

-- so it was asked, and by this fault the entry there was not seen to be this id and this text
pub record IsUnconfirmed (f : BatchFault) (r : Receiver) (id : ℕ) (text : List ℕ) (told : FrameBody)
    (asked : List Asked) (heard : List Notice) : Type 0 where
  pub pos : ℕ
  pub result : Result FrameBody BatchFault
  pub stands : IsDecidedAt pos told
  pub why : IsNotOwn f r pos (entry_of id text) result heard
  pub parts : asked ≡ asked_so (log_of r pos) result ∷ []

-- the entry at the position at which the desk has reported the command to be is another one
abbrev pub IsAnother : BatchFault → Receiver → ℕ → List ℕ → FrameBody → Type 0
IsAnother f r id text told =
    (f ≡ fault.AnotherCommand) × (pos : ℕ) × IsDecidedAt pos told
    × (entry : Entry) × (answer : FrameBody) × IsEntryAt r pos entry answer
    × (entry ≢ entry_of id text)

-- so it was asked, and the observer hears nothing of that
abbrev pub Confirms : Receiver → ℕ → List ℕ → FrameBody → List Asked → List Notice → Type 0
Confirms r id text told asked heard = IsConfirmed r id text told asked × (heard ≡ [])
