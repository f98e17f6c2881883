-- What a replay writes for its input, and how it ends: rules of this project's own.
use Rattle.std.specs.Prelude.{◌≡◌, ℕ, true, false, if◌then◌else◌, List, [], ◌∷◌, ◌++◌, length}
use Rattle.std.specs.Prelude.{codes, decimal, is_some, unwrap_or, Option, None}
use Rattle.std.specs.{List.enumerate_from, Io.KnownBytes.Appends, Io.KnownBytes.IsAtEnd}
use Rattle.formats.specs.declared.{events.Event.Event, styles.SheetStyle.SheetStyle as Style}
use Rattle.commands.specs.History.{History, nothing, history, after, answer_to}
use Rattle.texts.specs.Codes.{code_name}
use Rattle.texts.specs.declared.answer.Answer.{Answer, TheVariants.Done, TheVariants.Refused}
use Rattle.sheets.specs.Sheet.{sheet}
use Rattle.lines.specs.Lines.{whole_lines, lines_of, is_within, lines_read}
use Rattle.lines.specs.Bytes.{HasLeft, AppendsPart, Sides}
use Rattle.replay.specs.declared.fault.ReplayFault.{ReplayFault}
use Rattle.lines.specs.declared.fault.RunFault.TheVariants as run_fault
use Rattle.replay.specs.declared.fault.ReplayFault.TheVariants as fault

-- line n is the command text with the id n
abbrev pub entries : List (List ℕ) → List (ℕ × List ℕ)
entries lines = enumerate_from 1 lines

-- what is written for line n
abbrev pub refusal_text : ℕ → Answer → List ℕ
refusal_text n Done = []
refusal_text n (Refused code) =
    codes "refused " ++ decimal n ++ codes " " ++ code_name code ++ codes "\n"

-- what is written for entries after a history
abbrev pub refusals_after : History → List (ℕ × List ℕ) → List ℕ
refusals_after h [] = []
refusals_after h (e ∷ es) =
    refusal_text e.0 (answer_to h e.0 e.1) ++ refusals_after (after h e.0 e.1) es

-- a line for each refused command
abbrev pub refusals : List (List ℕ) → List ℕ
refusals lines = refusals_after nothing (entries lines)

-- the sheet after all lines
abbrev pub sheet_after : Style → Event → ℕ → List (List ℕ) → Option (List ℕ)
sheet_after style event round lines =
    sheet style (history (entries lines)).accepted event round (length lines)

-- the refused lines of an input; above the limits, those among the whole lines in front
abbrev pub refused_text : List ℕ → List ℕ
refused_text input = refusals (lines_read input)

-- the sheet of an input if there is one; there is none above the limits
abbrev pub sheet_text : Style → Event → ℕ → List ℕ → List ℕ
sheet_text style event round input =
    if is_within input then unwrap_or (sheet_after style event round (lines_of input)) [] else []

-- the text for an input: the refused lines, and then the sheet
abbrev pub replay_text : Style → Event → ℕ → List ℕ → List ℕ
replay_text style event round input =
    refused_text input ++ sheet_text style event round input

-- a run for the sheet of a round: its input, what its reader has left, and what its writer had and
-- has
pub record Run : Type 0 where
  pub style : Style
  pub event : Event
  pub round : ℕ
  pub input : List ℕ
  pub left : Option (List ℕ)
  pub old : Option (List ℕ)
  pub new : Option (List ℕ)

abbrev pub run_text : Run → List ℕ
run_text r = replay_text r.style r.event r.round r.input

abbrev pub run_sheet : Run → Option (List ℕ)
run_sheet r = sheet_after r.style r.event r.round (lines_of r.input)

-- all was read and is within the limits, the round is there, and its text is written
pub record Replays (r : Run) : Type 0 where
  pub end : IsAtEnd r.left
  pub within : is_within r.input ≡ true
  pub round_there : is_some (run_sheet r) ≡ true
  pub written : Appends r.old r.new (run_text r)

-- all was read and is within the limits, the round is not there, and the refused lines are written
pub record LacksRound (r : Run) : Type 0 where
  pub end : IsAtEnd r.left
  pub within : is_within r.input ≡ true
  pub no_round : run_sheet r ≡ None
  pub written : Appends r.old r.new (run_text r)

-- a byte is above the limits, and the refused lines among the whole ones in front of it are written
pub record IsTooLong (r : Run) : Type 0 where
  pub above : is_within r.input ≡ false
  pub written : Appends r.old r.new (run_text r)

-- a part of the input was read and is within the limits, the rest is left,
-- and what the whole lines of that part gave is written
pub record ReadsPart (r : Run) : Type 0 where
  pub front : List ℕ
  pub rest : List ℕ
  pub parts : r.input ≡ front ++ rest
  pub remains : HasLeft r.left rest
  pub within : is_within front ≡ true
  pub written : Appends r.old r.new (refusals (whole_lines front))

-- how a replay ends that does not write the whole text with a sheet
abbrev pub ReplayFails : ReplayFault → Run → Type 0
ReplayFails fault.NoSuchRound r = LacksRound r
ReplayFails (fault.Lines run_fault.InputTooLong) r = IsTooLong r
ReplayFails (fault.Lines run_fault.Read) r = ReadsPart r
ReplayFails (fault.Lines run_fault.Write) r = AppendsPart r.old r.new (run_text r)
ReplayFails (fault.Lines run_fault.NoMemory) r = AppendsPart r.old r.new (run_text r)
ReplayFails (fault.Lines run_fault.BadCount) r = ⊥
ReplayFails (fault.Lines (run_fault.BadLine n)) r = ⊥

-- the run with this input between these two sides
abbrev pub run_of : Style → Event → ℕ → List ℕ → Sides → Run
run_of style event round input s = record {
  style = style;
  event = event;
  round = round;
  input = input;
  left = s.left;
  old = s.old;
  new = s.new;
}

-- between these two sides, the input that the reader had was replayed to its end
abbrev pub ReplaysAll : Style → Event → ℕ → Sides → Type 0
ReplaysAll style event round s =
    (input : List ℕ) × HasLeft s.had input × Replays (run_of style event round input s)

-- between these two sides, a replay of the input that the reader had ended early by this fault
abbrev pub ReplaysPart : Style → Event → ℕ → Sides → ReplayFault → Type 0
ReplaysPart style event round s fault =
    (input : List ℕ) × HasLeft s.had input × ReplayFails fault (run_of style event round input s)
