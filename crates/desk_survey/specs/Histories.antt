-- What a survey tells after calls of any kind, in any order (the project's own).
use Rattle.std.specs.Prelude.{ℕ, ◌≡◌, ◌⊎◌, List, Some, Ok}
use Rattle.client.specs.{Answers.judged, Standings.status_request, Standings.status_request_in_five}
use Rattle.wire.specs.declared.frame.Frame.{Frame}
use Rattle.desk_talks.specs.Dialogues.{Call, CallsLead}
use Rattle.desk_survey.specs.Surveys.{DialogueLeads, SurveyOf, new_survey}
use Rattle.desk_survey.specs.declared.survey.SurveyAnswer.{SurveyAnswer}
use Rattle.wire.specs.declared.frame.FrameBody.TheVariants as what

-- the desk is asked how it is, in version 3 or in version 5
abbrev pub AsksHow : (hall desk : ℕ) → Frame → Type 0
AsksHow hall desk asked =
    (asked ≡ status_request hall desk) ⊎ (asked ≡ status_request_in_five hall desk)

-- the desk answered so, when it was asked how it is
pub record IsAnswered (hall desk : ℕ) (told : SurveyAnswer) : Type 0 where
  pub asked : Frame
  pub frame : Frame
  pub asks : AsksHow hall desk asked
  pub answers : judged asked frame ≡ Ok (what.Standing told.standing)

-- what is told after any calls was answered
abbrev pub TellsWhatWasAnswered : Type 0
TellsWhatWasAnswered =
    (hall desk : ℕ) (calls : List Call) (after : SurveyOf) (told : SurveyAnswer)
    → CallsLead DialogueLeads (new_survey hall desk) calls after → after.told ≡ Some told
    → IsAnswered hall desk told
