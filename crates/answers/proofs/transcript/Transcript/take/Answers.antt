use Rattle.std.proofs.Common.{List, [], ◌∷◌, ◌++◌, ◌∙◌, ap, sym, subst}
use Rattle.answers.{specs.Answers.texts, proofs.Transcripts.taken_next}
use Rattle.answers.specs.Transcripts.{TranscriptValue, IsTranscript}
use Rattle.commands.specs.History.{History, answer_to}
use Rattle.texts.specs.declared.answer.Answer.{Answer}
use Rattle.answers.proofs.transcript.Transcript.take.Goals as goal

pub returns-clause-answer : goal.returns-clause-answer
returns-clause-answer c entries is =
    let was : IsTranscript _ entries =
    subst (λ (t : TranscriptValue). IsTranscript t entries) (sym c.self.view_is) is in
    (rw (c.id.ensures.id, c.text.ensures.text) at c.in_ok-answer.ensures.answer)
    ∙ ap (λ (h : History). answer_to h c.args.entry.now.id c.args.entry.now.text) was.meet

pub returns-clause-taken : goal.returns-clause-taken
returns-clause-taken c entries is =
    let was : IsTranscript _ entries =
    subst (λ (t : TranscriptValue). IsTranscript t entries) (sym c.self.view_is) is in
    taken_next _ _ entries c.args.entry.now c.in_ok-answer.answer was
    (rw (c.id.ensures.id, c.text.ensures.text) at
    (c.in_ok-answer.ensures.stands (texts entries) was.meet))
    ((rw c.unwrap.ensures at c.push.ensures.items)
    ∙ ap (λ (given : List Answer). given ++ c.in_ok-answer.answer ∷ []) c.in_ok-reserve.ensures.items)
    (rw (c.id.ensures.id, c.text.ensures.text) at c.in_ok-answer.ensures.answer)
