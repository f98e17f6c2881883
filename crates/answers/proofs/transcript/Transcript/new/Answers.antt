use Rattle.answers.proofs.Transcripts.{none_front}
use Rattle.answers.proofs.transcript.Transcript.new.Goals as goal

pub returns-clause-front : goal.returns-clause-front
returns-clause-front c log =
    none_front _ log
    (record { meet = c.in_ok-meet.ensures.stands; answers = c.new-answers.ensures.items })
