-- What a hall of desks writes for its script, and how it ends (the project's own).
use Rattle.std.specs.Prelude.{◌≡◌, ℕ, ◌+◌, true, false, ◌==◌, ◌&&◌, if◌then◌else◌, List, [], ◌∷◌}
use Rattle.std.specs.Prelude.{◌++◌, length, flat_map, Option}
use Rattle.std.specs.{List.range_with_len, Io.KnownBytes.Appends, Io.KnownBytes.IsAtEnd}
use Rattle.learner.specs.{declared.event.WorldEvent.WorldEvent, Worlds.after, Worlds.log_of}
use Rattle.hall.specs.{world.WorldValues.last_fault, Scripts.HasEvents}
use Rattle.lines.specs.{Lines.whole_lines, Lines.is_within, Lines.lines_read, Bytes.Sides}
use Rattle.lines.specs.{Bytes.HasLeft, Bytes.AppendsPart, declared.fault.RunFault.RunFault}
use Rattle.hall.specs.Texts.{messages_text, refusal_text, log_text}
use Rattle.lines.specs.declared.fault.RunFault.TheVariants as fault

-- what is printed for an event after others, at n desks: the messages that it makes the desks
-- send, or its refusal; line i has the i-th event
abbrev pub event_text : ℕ → List WorldEvent → WorldEvent → List ℕ
event_text n events e =
    messages_text (length (after n events).sent) (after n (events ++ e ∷ [])).sent
    ++ refusal_text (length events + 1) (last_fault n (events ++ e ∷ []))

-- what is printed for events after others
abbrev pub events_text : ℕ → List WorldEvent → List WorldEvent → List ℕ
events_text n events [] = []
events_text n events (e ∷ es) = event_text n events e ++ events_text n (events ++ e ∷ []) es

-- what is printed for a script's events
abbrev pub script_text : ℕ → List WorldEvent → List ℕ
script_text n events = events_text n [] events

-- the log of each desk, in the order of their numbers
abbrev pub logs_text : ℕ → List WorldEvent → List ℕ
logs_text n events = flat_map (λ d. log_text d (log_of n events d)) (range_with_len 1 n)

-- the text for an input: what is printed for the events of its lines, up to the first line that
-- spells none, and then the logs, where the input is within the limits and each line spells an
-- event
pub record IsHallText (n : ℕ) (input text : List ℕ) : Type 0 where
  pub events : List WorldEvent
  pub others : List (List ℕ)
  pub spelled : HasEvents n (lines_read input) events others
  pub is : text ≡ script_text n events
      ++ (if is_within input && length others == 0 then logs_text n events else [])

-- a run of n desks: the input, what the reader has left, and what the writer had and has
pub record Run : Type 0 where
  pub desks : ℕ
  pub input : List ℕ
  pub left : Option (List ℕ)
  pub old : Option (List ℕ)
  pub new : Option (List ℕ)

-- all was read and is within the limits, each line spells an event, and what is printed for these
-- events is written, and then the logs
pub record Runs (r : Run) : Type 0 where
  pub end : IsAtEnd r.left
  pub within : is_within r.input ≡ true
  pub events : List WorldEvent
  pub spelled : HasEvents r.desks (lines_read r.input) events []
  pub written : Appends r.old r.new (script_text r.desks events ++ logs_text r.desks events)

-- this line spells no event, each one in front of it does, and what is printed for those is
-- written
pub record MeetsBadLine (line : ℕ) (r : Run) : Type 0 where
  pub events : List WorldEvent
  pub bad : List ℕ
  pub others : List (List ℕ)
  pub spelled : HasEvents r.desks (lines_read r.input) events (bad ∷ others)
  pub is : line ≡ length events + 1
  pub written : Appends r.old r.new (script_text r.desks events)

-- a byte is above the limits, each whole line in front of it spells an event, and what is printed
-- for those is written
pub record IsTooLong (r : Run) : Type 0 where
  pub above : is_within r.input ≡ false
  pub events : List WorldEvent
  pub spelled : HasEvents r.desks (lines_read r.input) events []
  pub written : Appends r.old r.new (script_text r.desks events)

-- a part of the input was read and is within the limits, the rest is left, each whole line of the
-- part spells an event, and what is printed for those is written
pub record ReadsPart (r : Run) : Type 0 where
  pub front : List ℕ
  pub rest : List ℕ
  pub parts : r.input ≡ front ++ rest
  pub remains : HasLeft r.left rest
  pub within : is_within front ≡ true
  pub events : List WorldEvent
  pub spelled : HasEvents r.desks (whole_lines front) events []
  pub written : Appends r.old r.new (script_text r.desks events)

-- a front part of the text for the whole input is written
pub record WritesPart (r : Run) : Type 0 where
  pub text : List ℕ
  pub is : IsHallText r.desks r.input text
  pub written : AppendsPart r.old r.new text

-- nothing was read or written
pub record IsUntouched (r : Run) : Type 0 where
  pub left : HasLeft r.left r.input
  pub same : r.new ≡ r.old

-- how a run ends that does not write the whole text with the logs
abbrev pub RunFails : RunFault → Run → Type 0
RunFails fault.BadCount r = IsUntouched r
RunFails fault.InputTooLong r = IsTooLong r
RunFails (fault.BadLine line) r = MeetsBadLine line r
RunFails fault.Read r = ReadsPart r
RunFails fault.Write r = WritesPart r
RunFails fault.NoMemory r = WritesPart r

-- the run of n desks with this input between these two sides
abbrev pub run_of : ℕ → List ℕ → Sides → Run
run_of n input s =
    record { desks = n; input = input; left = s.left; old = s.old; new = s.new }

-- between these two sides, the script that the reader had was run to its end
abbrev pub RunsAll : ℕ → Sides → Type 0
RunsAll n s = (input : List ℕ) × HasLeft s.had input × Runs (run_of n input s)

-- between these two sides, a run of the script that the reader had ended early by this fault
abbrev pub RunsPart : ℕ → Sides → RunFault → Type 0
RunsPart n s fault = (input : List ℕ) × HasLeft s.had input × RunFails fault (run_of n input s)
