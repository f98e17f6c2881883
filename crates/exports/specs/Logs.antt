-- A desk's log as a meet: its lines are parted and limited as those of a replay (the project's
-- own).
use Rattle.std.specs.Prelude.{◌≡◌, ℕ, ◌-◌, Bool, true, false, ◌==◌, List, length, slice_get}
use Rattle.std.specs.{Prelude.is_some, Prelude.Option, Prelude.None, Prelude.Some, List.list_any}
use Rattle.commands.specs.{Accepted.round_of, History.History, History.history}
use Rattle.formats.specs.Events.{all_events}
use Rattle.exports.specs.imports.Printing.{IsFront}
use Rattle.exports.specs.declared.{imports.reading.InputFault.InputFault, logs.LogFault.LogFault}
use Rattle.lines.specs.{Bytes.HasLeft, declared.fault.RunFault.RunFault}
use Rattle.lines.specs.Lines.{is_within, lines_of}
use Rattle.replay.specs.Replay.{entries}
use Rattle.texts.specs.declared.command.Command.{Command}
use Rattle.exports.specs.declared.imports.reading.InputFault.TheVariants as read
use Rattle.lines.specs.declared.fault.RunFault.TheVariants as run
use Rattle.exports.specs.declared.logs.LogFault.TheVariants as log

abbrev pub is_line_feed : Option ℕ → Bool
is_line_feed None = true
is_line_feed (Some byte) = byte == 10

-- a line feed is the last byte, where there is one
abbrev pub is_whole : List ℕ → Bool
is_whole bytes = is_line_feed (slice_get bytes (length bytes - 1))

-- the lines are within the limits, and the meet is what they come to, each with its number as id
pub record IsMeetOf (bytes : List ℕ) (meet : History) : Type 0 where
  pub within : is_within bytes ≡ true
  pub is : meet ≡ history (entries (lines_of bytes))

-- why they are not done
abbrev pub IsNoMeet : List ℕ → LogFault → Type 0
IsNoMeet bytes log.TooLong = is_within bytes ≡ false
IsNoMeet bytes log.CutOff = ⊥
IsNoMeet bytes log.Read = Unit {0}
IsNoMeet bytes log.NoMemory = Unit {0}

-- the reader has a whole log, and this is its meet
abbrev pub ReadsMeet : Option (List ℕ) → History → Type 0
ReadsMeet had meet =
    (bytes : List ℕ) × HasLeft had bytes × IsMeetOf bytes meet × (is_whole bytes ≡ true)

-- why it is not read: the bytes are above the limits, those after the first 64 MiB and one more
-- unread, or they are within them and the last line has no line feed
abbrev pub LogFails : Option (List ℕ) → LogFault → Type 0
LogFails had log.TooLong = (bytes : List ℕ) × IsFront had bytes × (is_within bytes ≡ false)
LogFails had log.CutOff =
    (bytes : List ℕ) × HasLeft had bytes × (is_within bytes ≡ true) × (is_whole bytes ≡ false)
LogFails had log.Read = Unit {0}
LogFails had log.NoMemory = Unit {0}

abbrev pub fault_of_run : RunFault → LogFault
fault_of_run run.InputTooLong = log.TooLong
fault_of_run run.NoMemory = log.NoMemory
fault_of_run run.Read = log.Read
fault_of_run run.Write = log.Read
fault_of_run run.BadCount = log.Read
fault_of_run (run.BadLine n) = log.Read

abbrev pub fault_of_read : InputFault → LogFault
fault_of_read read.Read = log.Read
fault_of_read read.NoMemory = log.NoMemory

-- a first round was opened, which each later one has in front of it
abbrev pub opens_any : List Command → Bool
opens_any cs = list_any (λ event. is_some (round_of cs event 1)) all_events
