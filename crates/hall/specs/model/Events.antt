-- A model of the code: which event is read of a line.
use Rattle.std.specs.Prelude.{ℕ, nat_le, if◌then◌else◌, List, [], ◌∷◌, ◌==◌, Bool, length, bytes_eq}
use Rattle.std.specs.Prelude.{codes, Option, None, Some}
use Rattle.std.specs.Option.{option_map, option_and_then}
use Rattle.acceptor.specs.Entries.{EntryValue}
use Rattle.learner.specs.declared.event.WorldEvent.{WorldEvent, TheVariants.Restart}
use Rattle.learner.specs.declared.event.WorldEvent.TheVariants.{Submit, Start, Tick, Deliver}
use Rattle.texts.specs.Fields.{cut, number_between}
use Rattle.hall.specs.Scripts.{most_delivered}

-- The fields of a line are after a space; where nothing is left the next field is missing.

infixl 10 ◌>>=◌
abbrev pub ◌>>=◌ : {A B : Type 0} → Option A → (A → Option B) → Option B
(Some x) >>= f = f x
None >>= f = None

-- an entry, where the text has at most 600 bytes
abbrev pub entry_of : ℕ → List ℕ → Option EntryValue
entry_of id text = if nat_le (length text) 600 then Some (record { id = id; text = text }) else None

-- a desk of n, an id and a text
unfoldable pub submit_of : ℕ → Option (List ℕ) → Option WorldEvent
submit_of n left = do
  fields ← left
  desk ← number_between 1 n (cut 32 fields).0
  more ← (cut 32 fields).1
  id ← number_between 1 9223372036854775807 (cut 32 more).0
  text ← (cut 32 more).1
  entry ← entry_of id text
  Some (Submit desk entry)

-- one number, and nothing after it
abbrev pub number_of : ℕ → (ℕ → WorldEvent) → Option (List ℕ) → Option WorldEvent
number_of most event left = option_map event (option_and_then (number_between 1 most) left)

abbrev pub by_word : ℕ → List ℕ × Option (List ℕ) → Option WorldEvent
by_word n line =
    if bytes_eq line.0 (codes "submit") then submit_of n line.1
    else if bytes_eq line.0 (codes "start") then number_of n Start line.1
    else if bytes_eq line.0 (codes "tick") then number_of n Tick line.1
    else if bytes_eq line.0 (codes "deliver") then number_of most_delivered Deliver line.1
    else if bytes_eq line.0 (codes "restart") then number_of n Restart line.1 else None

-- the event that is read of a line at n desks, where one is
unfoldable pub event_of : ℕ → List ℕ → Option WorldEvent
event_of n line = by_word n (cut 32 line)

-- an entry is submitted; memory is taken for nothing else
abbrev pub IsSubmit : Option WorldEvent → Type 0
IsSubmit (Some (Submit desk entry)) = Unit {0}
IsSubmit _ = ⊥

-- the events of the lines in front of the first of which none is read
abbrev pub before : Option WorldEvent → List WorldEvent → List WorldEvent
before None events = []
before (Some e) events = e ∷ events

abbrev pub events_of : ℕ → List (List ℕ) → List WorldEvent
events_of n [] = []
events_of n (line ∷ lines) = before (event_of n line) (events_of n lines)

-- an event is read of each line
abbrev pub are_events : ℕ → List (List ℕ) → Bool
are_events n lines = length (events_of n lines) == length lines
