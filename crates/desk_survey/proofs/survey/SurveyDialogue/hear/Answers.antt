use Rattle.std.proofs.Common.{subst}
use Rattle.desk_talks.specs.KeptConnections.{HearsOver}
use Rattle.desk_survey.specs.Surveys.{Follows, SurveyOf, with_line}
use Rattle.desk_survey.proofs.survey.SurveyDialogue.hear.Goals as goal

pub returns-clause-leads : goal.returns-clause-leads
returns-clause-leads c = record {
  heard = c.hear-heard.result;
  after = c.hear-heard.new.self;
  hears =
      subst (λ (s : SurveyOf). HearsOver c.hear-heard.result c.args.piece.now s.line
      c.hear-heard.new.self) c.self.view_is c.hear-heard.ensures;
  follows =
      subst (λ (s : SurveyOf). Follows c.hear-heard.result c.follow.result c.args.now
      (with_line s c.hear-heard.new.self) c.follow.new.self) c.self.view_is c.follow.ensures;
}
