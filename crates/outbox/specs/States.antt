-- What became of an item: what the log says, and nothing else (the project's own).
use Rattle.std.specs.Prelude.{ℕ, if◌then◌else◌, bytes_eq, slice_get, List, Option, None, Some}
use Rattle.acceptor.specs.declared.entry.Entry.{Entry}
use Rattle.learner.specs.Logs.{position_of}
use Rattle.texts.specs.declared.answer.{Answer.Answer, Code.Code}
use Rattle.answers.specs.Transcripts.{answer_at}
use Rattle.outbox.specs.declared.state.ItemState.{ItemState}
use Rattle.texts.specs.declared.answer.Answer.TheVariants as answer
use Rattle.texts.specs.declared.answer.Code.TheVariants as code
use Rattle.outbox.specs.declared.state.ItemState.TheVariants as state

-- an entry that was refused with a code: a card over other attempts than its scoretaker saw, or
-- another refusal
abbrev pub refused_as : ℕ → Code → ItemState
refused_as position code.Changed = state.Changed position
refused_as position why = state.Refused position why

abbrev pub answered_as : ℕ → Option Answer → ItemState
answered_as position None = state.Waits
answered_as position (Some answer.Done) = state.Saved position
answered_as position (Some (answer.Refused why)) = refused_as position why

-- by the entry at the first position that has the id
abbrev pub state_by : List Entry → Entry → ℕ → Option Entry → ItemState
state_by log entry position None = state.Waits
state_by log entry position (Some there) =
    if bytes_eq there.text entry.text then answered_as position (answer_at log position)
    else state.OtherText position

abbrev pub state_at : List Entry → Entry → Option ℕ → ItemState
state_at log entry None = state.Waits
state_at log entry (Some position) = state_by log entry position (slice_get log position)

-- what became of an entry, by these entries of the log
abbrev pub state_of : List Entry → Entry → ItemState
state_of log entry = state_at log entry (position_of log entry.id)
