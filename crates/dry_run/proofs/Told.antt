-- Entries that come after a log, one after the other.
use Rattle.std.proofs.Common.{◌≡◌, ℕ, List, ◌++◌, take, drop}
use Rattle.acceptor.specs.declared.entry.Entry.{Entry}
use Rattle.answers.specs.Transcripts.{TranscriptValue, IsTranscript, answers_after}
use Rattle.texts.specs.declared.answer.Answer.{Answer}

-- the answers so far, and those to what is left
pub record Tells (log entries : List Entry) (i : ℕ) (t : TranscriptValue) (given : List Answer)
    : Type 0 where
  pub stands : IsTranscript t (log ++ take i entries)
  pub rest : given ++ answers_after (log ++ take i entries) (drop i entries)
      ≡ answers_after log entries
