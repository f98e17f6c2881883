use Rattle.std.proofs.Common.{refl, sym, ◌∙◌}
use Rattle.polled.proofs.Telling.{Tells-nil}
use Rattle.desk_talks.specs.Dialogues.{Hear}
use Rattle.desk_talks.specs.declared.dialogue.ReceiveOutcome.TheVariants as came
use Rattle.desk_sockets.proofs.Driving.{both, hears_none, hears_some, one}
use Rattle.desk_sockets.proofs.desk_stream.take.Goals as goal

pub returns-then-is_empty-clause-hears : goal.returns-then-is_empty-clause-hears
returns-then-is_empty-clause-hears g c =
    hears_none g.D.Dialogue.leads c.args.outcome c.args.now c.args.handed.now _ _
    (sym c.is_empty.ensures ∙ c.if-is_empty.true) c.end.ensures.makes

pub returns-in-Nothing-clause-went : goal.returns-in-Nothing-clause-went
returns-in-Nothing-clause-went g c = λ addresses. both
    (one (Hear came.Nothing _ _) c.in-Nothing.ensures.leads (Tells-nil _))
    (c.end-in-Nothing.ensures.went addresses)

pub returns-in-Nothing-clause-hears : goal.returns-in-Nothing-clause-hears
returns-in-Nothing-clause-hears g c =
    hears_some g.D.Dialogue.leads c.args.outcome c.args.now c.args.handed.now came.Nothing _ _ _
    (sym c.is_empty.ensures ∙ c.if-is_empty.false) c.in-Nothing.ensures.leads
    c.end-in-Nothing.ensures.makes

pub returns-in-Answer-clause-went : goal.returns-in-Answer-clause-went
returns-in-Answer-clause-went g c = λ addresses. both
    (one (Hear (came.Answer _) _ _) c.in-Answer.ensures.leads (Tells-nil _))
    (c.end-in-Answer.ensures.went addresses)

pub returns-in-Answer-clause-hears : goal.returns-in-Answer-clause-hears
returns-in-Answer-clause-hears g c =
    hears_some g.D.Dialogue.leads c.args.outcome c.args.now c.args.handed.now
    (came.Answer c.in-Answer.changed) _ _ _ (sym c.is_empty.ensures ∙ c.if-is_empty.false)
    c.in-Answer.ensures.leads c.end-in-Answer.ensures.makes

pub returns-in-NoAnswer-clause-went : goal.returns-in-NoAnswer-clause-went
returns-in-NoAnswer-clause-went g c =
    λ addresses. one (Hear came.NoAnswer _ _) c.in-NoAnswer.ensures.leads c.close.ensures.told

pub returns-in-NoAnswer-clause-hears : goal.returns-in-NoAnswer-clause-hears
returns-in-NoAnswer-clause-hears g c =
    hears_some g.D.Dialogue.leads c.args.outcome c.args.now c.args.handed.now came.NoAnswer _ _ _
    (sym c.is_empty.ensures ∙ c.if-is_empty.false) c.in-NoAnswer.ensures.leads refl
