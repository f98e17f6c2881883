-- What a replay gives of an archive (the project's own).
use Rattle.std.specs.Prelude.{◌≡◌, ℕ, ◌+◌, ◌≤◌, Bool, true, if◌then◌else◌, List, ◌∷◌, ◌++◌, length}
use Rattle.std.specs.List.{All}
use Rattle.acceptor.specs.{Entries.IsText, declared.entry.Entry.Entry}
use Rattle.formats.specs.declared.{events.Event.Event, styles.SheetStyle.SheetStyle as Style}
use Rattle.texts.specs.declared.answer.Answer.{Answer, TheVariants.Refused}
use Rattle.texts.specs.declared.answer.Code.TheVariants.{Unread}
use Rattle.commands.specs.History.{history, answer_to}
use Rattle.lines.specs.Lines.{is_within, lines_of}
use Rattle.replay.specs.Replay.{entries, sheet_after}
use Rattle.answers.specs.Answers.{texts, sheet_at}
use Rattle.archive.specs.Archive.{has_id, line_of, archive, archive_text}

-- at most 65,536 entries, and no text above 600 bytes
abbrev pub IsLog : List Entry → Type 0
IsLog log = (length log ≤ 65536) × All (λ e. IsText e.text) log

-- what a replay answers in an answer's place: where the id was there before, that the line is no
-- command
abbrev pub replayed : Bool → Answer → Answer
replayed seen answer = if seen then Refused Unread else answer

-- a replay of the archive of a log
pub record IsReplayed (log : List Entry) : Type 0 where
  -- reads all of it, a line for each entry
  pub within : is_within (archive_text log) ≡ true
  pub lines : lines_of (archive_text log) ≡ archive log
  pub count : length (archive log) ≡ length log
  -- answers the line of each entry as the hall answers the entry, but for an id that was there
  -- before
  pub answers : (before : List Entry) (e : Entry) (behind : List Entry) → log ≡ before ++ e ∷ behind
      → answer_to (history (entries (archive before))) (length before + 1) (line_of before e)
      ≡ replayed (has_id before e.id) (answer_to (history (texts before)) e.id e.text)
  -- and gives each sheet of the log at its length
  pub sheets : (style : Style) (event : Event) (round : ℕ)
      → sheet_after style event round (lines_of (archive_text log))
      ≡ sheet_at style log (length log) event round

-- the archive of every log is replayed so
abbrev pub LogsAreReplayed : Type 0
LogsAreReplayed = (log : List Entry) → IsLog log → IsReplayed log
