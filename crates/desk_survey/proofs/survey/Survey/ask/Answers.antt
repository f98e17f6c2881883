use Rattle.std.proofs.Common.{◌∙◌, ap, subst, sym, true}
use Rattle.desk_talks.specs.KeptConnections.{AsksOver}
use Rattle.desk_survey.specs.Surveys.{SurveyOf, question, with_line}
use Rattle.desk_survey.proofs.Steps.{asks_true}
use Rattle.desk_survey.proofs.survey.Survey.ask.Goals as goal

pub returns-then-ask : goal.returns-then-ask
returns-then-ask c = (
  c.ask.new.self,
  subst
      (λ (s : SurveyOf).
      AsksOver true c.args.now (question s) s.line c.ask.new.self)
      c.self.view_is
      (asks_true c.ask.result c.args.now c.question-question.result _ c.self.inside.line
      c.ask.new.self c.if-ask.true
      (c.question-question.ensures.question ∙ ap question (sym c.self.view_is)) c.ask.ensures),
  ap (λ (s : SurveyOf). with_line s c.ask.new.self) c.self.view_is,
)
