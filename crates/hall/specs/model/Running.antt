-- A model of the code: what one line comes to, and all lines, before there are logs.
use Rattle.std.specs.Prelude.{◌≡◌, ◌⊎◌, ℕ, Bool, true, false, ◌&&◌, if◌then◌else◌, List, ◌∷◌, []}
use Rattle.std.specs.Prelude.{◌++◌, Option}
use Rattle.std.specs.Io.KnownBytes.{Appends, IsAtEnd}
use Rattle.learner.specs.declared.event.WorldEvent.{WorldEvent}
use Rattle.hall.specs.{world.WorldValues.WorldValue, world.WorldValues.extended, Scripts.SpellsNone}
use Rattle.lines.specs.{Lines.is_within, Lines.lines_read, declared.fault.RunFault.RunFault}
use Rattle.lines.specs.Bytes.{AppendsPart, HasLeft, Sides}
use Rattle.hall.specs.{Scripts.Spells, model.Events.are_events, model.Events.events_of}
use Rattle.hall.specs.Halls.{Run, RunFails, event_text, script_text, logs_text, run_of}
use Rattle.lines.specs.declared.fault.RunFault.TheVariants as fault

-- the line spells this event, which was done, and what is printed for it is after the rest
pub record DoesLine (n : ℕ) (line : List ℕ) (old new : WorldValue) (before after : List ℕ) : Type 0
  where
    pub event : WorldEvent
    pub spelled : Spells n line event
    pub world : new ≡ extended old (event ∷ [])
    pub said : after ≡ before ++ event_text n old.events event

-- the line spells no event, and nothing was done
pub record LeavesLine (n : ℕ) (line : List ℕ) (old new : WorldValue) (before after : List ℕ)
    : Type 0 where
  pub bad : SpellsNone n line
  pub world : new ≡ old
  pub said : after ≡ before

abbrev pub HandlesLine : Bool → (n : ℕ) (line : List ℕ) (old new : WorldValue)
    → (before after : List ℕ) → Type 0
HandlesLine true n line old new before after = DoesLine n line old new before after
HandlesLine false n line old new before after = LeavesLine n line old new before after

-- what is printed for the events of lines
abbrev pub lines_text : ℕ → List (List ℕ) → List ℕ
lines_text n lines = script_text n (events_of n lines)

-- the text for an input
abbrev pub hall_text : ℕ → List ℕ → List ℕ
hall_text n input =
    lines_text n (lines_read input) ++ (if is_within input && are_events n (lines_read input)
    then logs_text n (events_of n (lines_read input)) else [])

-- all lines were read and their events were done, and what is printed for them is written
pub record DoesAll (n : ℕ) (world : WorldValue) (input : List ℕ) (left old new : Option (List ℕ))
    : Type 0 where
  pub end : IsAtEnd left
  pub within : is_within input ≡ true
  pub good : are_events n (lines_read input) ≡ true
  pub world_is : world ≡ record { desks = n; events = events_of n (lines_read input) }
  pub written : Appends old new (lines_text n (lines_read input))

-- why not all lines were done
abbrev pub StopsAmong : RunFault → Run → Type 0
StopsAmong fault.InputTooLong r = RunFails fault.InputTooLong r
StopsAmong (fault.BadLine line) r = RunFails (fault.BadLine line) r
StopsAmong fault.Read r = RunFails fault.Read r
StopsAmong fault.Write r = AppendsPart r.old r.new (hall_text r.desks r.input)
StopsAmong fault.NoMemory r = AppendsPart r.old r.new (hall_text r.desks r.input)
StopsAmong fault.BadCount r = ⊥

-- between these two sides, all lines of the script that the reader had were done
abbrev pub DoesScript : ℕ → WorldValue → Sides → Type 0
DoesScript n world s =
    (input : List ℕ) × HasLeft s.had input × DoesAll n world input s.left s.old s.new

-- between these two sides, not all of them were, by this fault
abbrev pub StopsScript : ℕ → Sides → RunFault → Type 0
StopsScript n s fault = (input : List ℕ) × HasLeft s.had input × StopsAmong fault (run_of n input s)

-- what waited was written and this is the fault, or a write failed
abbrev pub EndsBy : RunFault → RunFault → (old new : Option (List ℕ)) → List ℕ → Type 0
EndsBy result why old new text =
    ((result ≡ why) × Appends old new text) ⊎ ((result ≡ fault.Write) × AppendsPart old new text)

-- a write failed, or memory ran out
abbrev pub IsStopped : RunFault → Type 0
IsStopped why = (why ≡ fault.Write) ⊎ (why ≡ fault.NoMemory)
