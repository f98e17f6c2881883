-- What is said of the desks that are asked (the project's own).
use Rattle.std.specs.Prelude.{◌≡◌, ℕ, ⊤, List, [], ◌∷◌, Option, None, Some, string_bytes, ◌++◌}
use Rattle.desk_survey.specs.Surveys.{SurveyOf}
use Rattle.desk_survey.specs.declared.survey.{Reachability.Reachability, SurveyAnswer.SurveyAnswer}
use Rattle.standings.specs.declared.polled.{PolledDesk.PolledDesk, StatusReply.StatusReply}
use Rattle.hall_survey.specs.declared.asked.AskedDesk.{AskedDesk}
use Rattle.desk_survey.specs.declared.survey.Reachability.TheVariants as contact
use Rattle.standings.specs.declared.polled.StatusReply.TheVariants as reply

-- how a desk is that said so last
abbrev pub stands_as_told : ℕ → Option SurveyAnswer → StatusReply
stands_as_told desk None = reply.Late
stands_as_told desk (Some told) = reply.Stands desk told.standing

abbrev pub standing_of : ℕ → SurveyOf → StatusReply
standing_of desk s = stands_as_told desk s.told

-- by what came of asking it last: a desk that was not asked yet, or did not answer, has no answer
-- in time
abbrev pub reply_by : Reachability → ℕ → SurveyOf → StatusReply
reply_by contact.Answers desk s = standing_of desk s
reply_by (contact.Refuses refusal) desk s = reply.Refused refusal
reply_by contact.NotAsked desk s = reply.Late
reply_by contact.Silent desk s = reply.Late

abbrev pub reply_of : ℕ → SurveyOf → StatusReply
reply_of desk s = reply_by s.contact desk s

-- this is told of a desk
pub record IsTold (a : AskedDesk) (told : PolledDesk) : Type 0 where
  pub asked : told.asked ≡ a.desk
  pub address : told.address.now ≡ string_bytes a.address
  pub reply : told.reply ≡ reply_of a.desk a.survey
  pub other : told.other ≡ None

-- these are told of these desks, one of each, in order
abbrev pub AreTold : List AskedDesk → List PolledDesk → Type 0
AreTold [] [] = ⊤
AreTold (a ∷ others) (told ∷ more) = IsTold a told × AreTold others more
AreTold _ _ = ⊥

-- what is told of the first of these desks; whatever is told of the others completes it
abbrev pub Begins : (asked others : List AskedDesk) → List PolledDesk → Type 0
Begins asked others told =
    (more : List PolledDesk) → AreTold others more → AreTold asked (told ++ more)
