-- The log of a desk, asked for part after part (the project's own).
use Rattle.std.specs.Prelude.{◌≡◌, ◌⊎◌, ◌+◌, ◌<◌, ◌≤◌, ◌++◌, ◌∷◌, [], ℕ, List, length, Result, Ok}
use Rattle.std.specs.Prelude.{Err}
use Rattle.acceptor.specs.declared.entry.Entry.{Entry}
use Rattle.client.specs.declared.fault.ClientFault.TheVariants.{NoAnswer}
use Rattle.wire.specs.declared.frame.FrameBody.{FrameBody}
use Rattle.batch.specs.Asking.{IsAnswer}
use Rattle.batch.specs.Dialing.{Adds, Asked, Told, asked_so}
use Rattle.batch.specs.declared.{asking.Receiver.Receiver, fault.BatchFault.BatchFault}
use Rattle.wire.specs.declared.frame.FrameBody.TheVariants as what
pub use Rattle.batch.specs.Asking.{log_of}
use Rattle.batch.specs.declared.fault.BatchFault.TheVariants as fault

-- The answer has these entries of a log of this length, from the position on. The log has not
-- become shorter than it was reported to be, the entries end within it, and there is one, unless
-- the log ends at the position.
pub record IsPart (position least len : ℕ) (entries : List Entry)
    (answer : FrameBody) : Type 0 where
  pub has : answer ≡ what.Entries position len entries
  pub grows : least ≤ len
  pub within : position + length entries ≤ len
  pub goes_on : position < len → 0 < length entries

-- the request for the log from the position on was answered by a part
pub record IsPartBy (r : Receiver) (position least len : ℕ) (entries : List Entry) (a : Asked)
    : Type 0 where
  pub answer : FrameBody
  pub request : a.request ≡ log_of r position
  pub answered : a.answer ≡ Ok answer
  pub comes : IsAnswer (log_of r position) answer
  pub part : IsPart position least len entries answer

-- Behind this position of a log that was reported to be this long, these entries came by these
-- requests, and the log was reported to be this long at last. Each was asked for where the log goes
-- on, from where the entries end that had come.
abbrev pub AreFurther : Receiver → (position told : ℕ) → List Asked → List Entry → ℕ → Type 0
AreFurther r position told [] entries last = (entries ≡ []) × (last ≡ told)
AreFurther r position told (a ∷ asked) entries last =
    (len : ℕ) × (first rest : List Entry) × (position < told) × IsPartBy r position told len first a
    × AreFurther r (position + length first) len asked rest last × (entries ≡ first ++ rest)

-- These entries, from the log's beginning on, came by these requests, and the log was reported to
-- be this long at last. Nothing was asked, or first for the log's beginning.
abbrev pub HaveCome : Receiver → List Asked → List Entry → ℕ → Type 0
HaveCome r [] log told = (log ≡ []) × (told ≡ 0)
HaveCome r (a ∷ asked) log told =
    (len : ℕ) × (first rest : List Entry) × IsPartBy r 0 0 len first a
    × AreFurther r (length first) len asked rest told × (log ≡ first ++ rest)

-- all of a log came by these requests: as many entries as it was told to have at last
pub record TellsLog (r : Receiver) (log : List Entry) (asked : List Asked) : Type 0 where
  pub some : 0 < length asked
  pub come : HaveCome r asked log (length log)

-- there is no answer, or it is no part of a log that only grows, or memory ran out
abbrev pub IsNoPart : BatchFault → (position told : ℕ) → Result FrameBody BatchFault → Type 0
IsNoPart f position told (Err e) = f ≡ e
IsNoPart f position told (Ok answer) =
    ((f ≡ fault.Asking NoAnswer)
    × ((len : ℕ) → (entries : List Entry) → ¬ IsPart position told len entries answer))
    ⊎ (f ≡ fault.NoMemory)

-- entries came by all requests but the last one, which was for the log from where they end; it was
-- made first, or since the log goes on
pub record StopsTelling (f : BatchFault) (r : Receiver) (asked : List Asked) : Type 0 where
  pub front : List Asked
  pub log : List Entry
  pub told : ℕ
  pub last : Result FrameBody BatchFault
  pub parts : asked ≡ front ++ asked_so (log_of r (length log)) last ∷ []
  pub come : HaveCome r front log told
  pub goes_on : (front ≡ []) ⊎ (length log < told)
  pub fails : IsNoPart f (length log) told last

-- memory ran out before anything was asked, or the last request failed
abbrev pub FailsLog : BatchFault → Receiver → List Asked → Type 0
FailsLog f r asked = ((f ≡ fault.NoMemory) × (asked ≡ [])) ⊎ StopsTelling f r asked

-- what became of connections grows by requests of which this is said
abbrev pub AddsSo : Told → (List Asked → Type 0) → Type 0
AddsSo t Is = (asked : List Asked) × Adds t.place t.old t.new asked × Is asked
