-- What has become of an id whose entry is in the log.
use Rattle.std.proofs.Common.{◌≡◌, ℕ, List, Option, Some, None, take, slice_get, sym, ap, ◌∙◌}
use Rattle.std.specs.Option.{option_map}
use Rattle.acceptor.specs.declared.entry.Entry.{Entry}
use Rattle.learner.specs.Logs.{position_of}
use Rattle.answers.specs.{Answers.told, Answers.told_at, declared.answers.IdState.TheVariants.Done}
use Rattle.answers.{specs.Answers.told_by, proofs.Transcripts.answered_front}
use Rattle.answers.specs.Transcripts.{TranscriptValue, IsFront, answer_after, answer_at}
use Rattle.texts.specs.declared.answer.Answer.{Answer}

done_at : (log queue : List Entry) (id pos : ℕ) (answer : Answer)
    → position_of log id ≡ Some pos → answer_at log pos ≡ Some answer
    → Done pos answer ≡ told log queue id
done_at log queue id pos answer found is =
    go (slice_get log pos) is ∙ ap (told_by log queue id) (sym found)
  where
    go : (e : Option Entry) → option_map (answer_after (take pos log)) e ≡ Some answer
        → Done pos answer ≡ told_at log pos e
    go None none = absurd cc
    go (Some e) some =
        let same : answer ≡ answer_after (take pos log) e = cc in
        ap (λ (a : Answer). Done pos a) same

-- it was taken
pub done_by_front : (t : TranscriptValue) (log queue : List Entry) (id pos : ℕ) (answer : Answer)
    → IsFront t log → position_of log id ≡ Some pos → slice_get t.answers pos ≡ Some answer
    → Done pos answer ≡ told log queue id
done_by_front t log queue id pos answer is found at =
    done_at log queue id pos answer found (answered_front t log pos answer is at)

-- it is taken after the entries before it
pub done_by_taking : (log queue : List Entry) (id pos : ℕ) (e : Entry) (answer : Answer)
    → position_of log id ≡ Some pos → slice_get log pos ≡ Some e
    → answer ≡ answer_after (take pos log) e → Done pos answer ≡ told log queue id
done_by_taking log queue id pos e answer found there is =
    done_at log queue id pos answer found
    (ap (option_map (answer_after (take pos log))) there ∙ ap Some (sym is))
