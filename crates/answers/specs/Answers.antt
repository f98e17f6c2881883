-- What a desk answers from its log: what has become of an id, and the sheets (the project's own).
use Rattle.std.specs.Prelude.{◌≡◌, ℕ, ◌≤◌, ◌<◌, ◌==◌, Bool, if◌then◌else◌, List, map, length, take}
use Rattle.std.specs.{Prelude.slice_get, Prelude.Option, Prelude.None, Prelude.Some, List.list_any}
use Rattle.acceptor.specs.declared.entry.Entry.{Entry}
use Rattle.learner.specs.Logs.{position_of}
use Rattle.formats.specs.declared.{events.Event.Event, styles.SheetStyle.SheetStyle as Style}
use Rattle.commands.specs.History.{history, answer_to}
use Rattle.sheets.specs.Sheet.{text_sheet, table_sheet}
use Rattle.formats.specs.declared.styles.SheetStyle.TheVariants.{Text, Table}
use Rattle.answers.specs.declared.{answers.IdState.IdState, fault.LogSheetFault.LogSheetFault}
use Rattle.answers.specs.declared.answers.IdState.TheVariants.{Done, Pending, Unknown}
use Rattle.answers.specs.declared.fault.LogSheetFault.TheVariants.{NotThere, NoSuchRound, NoMemory}

-- entries as ids and texts
abbrev pub texts : List Entry → List (ℕ × List ℕ)
texts entries = map (λ e. (e.id, e.text)) entries

-- an entry at a position is answered by the rules, over the entries before it
abbrev pub told_at : List Entry → ℕ → Option Entry → IdState
told_at log pos None = Unknown
told_at log pos (Some e) = Done pos (answer_to (history (texts (take pos log))) e.id e.text)

-- an entry of the id is in the queue
abbrev pub is_queued : List Entry → ℕ → Bool
is_queued queue id = list_any (λ e. e.id == id) queue

-- an id that the log does not have is Pending where the queue has it
abbrev pub told_by_queue : List Entry → ℕ → IdState
told_by_queue queue id = if is_queued queue id then Pending else Unknown

-- an id is Done where the log has it
abbrev pub told_by : List Entry → List Entry → ℕ → Option ℕ → IdState
told_by log queue id None = told_by_queue queue id
told_by log queue id (Some pos) = told_at log pos (slice_get log pos)

abbrev pub told : List Entry → List Entry → ℕ → IdState
told log queue id = told_by log queue id (position_of log id)

-- the Regulations' sheet for the accepted commands of the log's first entries
abbrev pub sheet_at : Style → List Entry → ℕ → Event → ℕ → Option (List ℕ)
sheet_at Text log position event round =
    text_sheet (history (texts (take position log))).accepted event round position
sheet_at Table log position event round =
    table_sheet (history (texts (take position log))).accepted event round

-- why there is no sheet at the position, in this order; where memory is refused the position is
-- there
abbrev pub NoSheetAt : LogSheetFault → List Entry → ℕ → Option (List ℕ) → Type 0
NoSheetAt NotThere log position sheet = length log < position
NoSheetAt NoSuchRound log position sheet = (position ≤ length log) × (sheet ≡ None)
NoSheetAt NoMemory log position sheet = position ≤ length log

-- why there is no sheet of a meet
abbrev pub NoSheetIn : LogSheetFault → Option (List ℕ) → Type 0
NoSheetIn NotThere sheet = ⊥
NoSheetIn NoSuchRound sheet = sheet ≡ None
NoSheetIn NoMemory sheet = Unit {0}
