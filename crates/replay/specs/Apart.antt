-- A replay that writes the refused lines to one place and the sheet to another (the project's own).
use Rattle.std.specs.Prelude.{◌≡◌, ◌⊎◌, true, false, ℕ, List, ◌++◌, is_some, Option, None}
use Rattle.std.specs.Io.KnownBytes.{Appends, IsAtEnd, Keeps}
use Rattle.formats.specs.declared.{events.Event.Event, styles.SheetStyle.SheetStyle as Style}
use Rattle.lines.specs.Bytes.{AppendsPart, HasLeft, Sides}
use Rattle.lines.specs.Lines.{is_within, whole_lines}
use Rattle.replay.specs.Replay.{Run, refusals, refused_text, run_of, run_sheet, sheet_text}
use Rattle.replay.specs.declared.fault.ReplayFault.{ReplayFault}
use Rattle.lines.specs.declared.fault.RunFault.TheVariants as run_fault
use Rattle.replay.specs.declared.fault.ReplayFault.TheVariants as fault

-- what a place had before a run, and what it has
pub record Told : Type 0 where
  pub before : Option (List ℕ)
  pub now : Option (List ℕ)

-- what a writer tells of itself before and afterwards
abbrev pub told : {F : Type 0} → (F → Option (List ℕ)) → (before now : F) → Told
told contents before now = record { before = contents before; now = contents now }

-- the refused lines of the input of a run, and its sheet
abbrev pub run_refused : Run → List ℕ
run_refused r = refused_text r.input

abbrev pub run_alone : Run → List ℕ
run_alone r = sheet_text r.style r.event r.round r.input

-- all was read and is within the limits, the round is there; the refused lines are written, and the
-- sheet alone is written
pub record ReplaysApart (r : Run) (t : Told) : Type 0 where
  pub end : IsAtEnd r.left
  pub within : is_within r.input ≡ true
  pub round_there : is_some (run_sheet r) ≡ true
  pub told : Appends t.before t.now (run_refused r)
  pub written : Appends r.old r.new (run_alone r)

-- all was read and is within the limits, and the round is not there; the refused lines are written
pub record LacksRoundApart (r : Run) (t : Told) : Type 0 where
  pub end : IsAtEnd r.left
  pub within : is_within r.input ≡ true
  pub no_round : run_sheet r ≡ None
  pub told : Appends t.before t.now (run_refused r)
  pub kept : Keeps r.old r.new

-- a byte is above the limits, and the refused lines among the whole ones in front of it are told
pub record IsTooLongApart (r : Run) (t : Told) : Type 0 where
  pub above : is_within r.input ≡ false
  pub told : Appends t.before t.now (run_refused r)
  pub kept : Keeps r.old r.new

-- a part of the input was read and is within the limits, the rest is left, and what the whole lines
-- of that part gave is told
pub record ReadsPartApart (r : Run) (t : Told) : Type 0 where
  pub front : List ℕ
  pub rest : List ℕ
  pub parts : r.input ≡ front ++ rest
  pub remains : HasLeft r.left rest
  pub within : is_within front ≡ true
  pub told : Appends t.before t.now (refusals (whole_lines front))
  pub kept : Keeps r.old r.new

-- a front part of the refused lines is written, and nothing is written
abbrev pub TellsPart : Run → Told → Type 0
TellsPart r t = AppendsPart t.before t.now (run_refused r) × Keeps r.old r.new

-- all refused lines are written, and a front part of the sheet is written
abbrev pub WritesPart : Run → Told → Type 0
WritesPart r t = Appends t.before t.now (run_refused r) × AppendsPart r.old r.new (run_alone r)

-- how such a replay ends that does not write the sheet
abbrev pub FailsApart : ReplayFault → Run → Told → Type 0
FailsApart fault.NoSuchRound r t = LacksRoundApart r t
FailsApart (fault.Lines run_fault.InputTooLong) r t = IsTooLongApart r t
FailsApart (fault.Lines run_fault.Read) r t = ReadsPartApart r t
FailsApart (fault.Lines run_fault.Write) r t = TellsPart r t ⊎ WritesPart r t
FailsApart (fault.Lines run_fault.NoMemory) r t = TellsPart r t
FailsApart (fault.Lines run_fault.BadCount) r t = ⊥
FailsApart (fault.Lines (run_fault.BadLine n)) r t = ⊥

-- between these two sides, the input that the reader had was replayed to its end
abbrev pub ReplaysAllApart : Style → Event → ℕ → Sides → Told → Type 0
ReplaysAllApart style event round s t =
    (input : List ℕ) × HasLeft s.had input × ReplaysApart (run_of style event round input s) t

-- between these two sides, a replay of the input that the reader had ended early by this fault
abbrev pub ReplaysPartApart : Style → Event → ℕ → Sides → Told → ReplayFault → Type 0
ReplaysPartApart style event round s t fault =
    (input : List ℕ) × HasLeft s.had input × FailsApart fault (run_of style event round input s) t
