-- What the entries of a log are answered, one after the other, and what they come to (the project's
-- own).
use Rattle.std.specs.Prelude.{◌≡◌, ◌≤◌, ℕ, List, [], ◌∷◌, ◌++◌, length, take, slice_get, Option}
use Rattle.std.specs.Option.{option_map}
use Rattle.acceptor.specs.declared.entry.Entry.{Entry}
use Rattle.answers.specs.Answers.{texts}
use Rattle.commands.specs.History.{History, StandsFor, history, answer_to}
use Rattle.texts.specs.declared.answer.Answer.{Answer}

-- what an entry is answered by the rules, over the entries before it
abbrev pub answer_after : List Entry → Entry → Answer
answer_after before e = answer_to (history (texts before)) e.id e.text

-- what the entry at a position is answered
abbrev pub answer_at : List Entry → ℕ → Option Answer
answer_at log position = option_map (answer_after (take position log)) (slice_get log position)

-- what entries are answered, one after the other, where they come after others
abbrev pub answers_after : List Entry → List Entry → List Answer
answers_after before [] = []
answers_after before (e ∷ entries) =
    answer_after before e ∷ answers_after (before ++ e ∷ []) entries

-- a meet, and answers
pub record TranscriptValue : Type 0 where
  pub meet : History
  pub answers : List Answer

-- the meet is what these entries come to, and they were answered so, one after the other
pub record IsTranscript (t : TranscriptValue) (entries : List Entry) : Type 0 where
  pub meet : StandsFor t.meet (texts entries)
  pub answers : t.answers ≡ answers_after [] entries

-- so it is of a log's first entries, as many as there are answers
pub record IsFront (t : TranscriptValue) (log : List Entry) : Type 0 where
  pub few : length t.answers ≤ length log
  pub first : IsTranscript t (take (length t.answers) log)
