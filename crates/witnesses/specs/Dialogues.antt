-- What is said over a connection by a mirror that is kept up, and by a survey of a desk (the
-- project's own).
use Rattle.std.specs.Prelude.{true, false, List, [], ◌∷◌, codes, length, None, Some}
use Rattle.acceptor.specs.declared.entry.Entry.{Entry}
use Rattle.client.specs.Standings.{log_request, status_request_in_five}
use Rattle.desk_talks.specs.Dialogues.{Act, CallsLead, Hear, Opened, Sent}
use Rattle.desk_talks.specs.{KeptConnections.line, Exchanges.ExchangeOf, Exchanges.talk}
use Rattle.kept_mirror.specs.Histories.{Call, CallLeads, InDialogue}
use Rattle.kept_mirror.specs.Mirrorings.{MirroringOf, mirroring, new_mirroring}
use Rattle.desk_survey.specs.Surveys.{DialogueLeads, SurveyOf, new_survey, survey}
use Rattle.wire.specs.{Spelling.spelling, Stream.holding}
use Rattle.wire.specs.declared.{frame.Frame.Frame, values.DeskRole.TheVariants.Idle}
use Rattle.wire.specs.declared.standing.{Lengths.TheVariants.OfThree, DeskStatus.DeskStatus}
use Rattle.wire.specs.declared.values.Version.TheVariants.{Three, Five}
use Rattle.desk_talks.specs.Dialogues as Dialogues
use Rattle.desk_talks.specs.declared.dialogue.ReceiveOutcome.TheVariants as came
use Rattle.desk_talks.specs.declared.dialogue.DialogueAction.TheVariants as wish
use Rattle.desk_talks.specs.declared.kept_connection.ConnectionStage.TheVariants as line_stage
use Rattle.log_follower.specs.declared.stages.AnswerWorth.TheVariants as worth
use Rattle.desk_survey.specs.declared.survey.Reachability.TheVariants as contact
use Rattle.wire.specs.declared.frame.FrameBody.TheVariants as what

-- a talk in which all was said
abbrev pub quiet : ExchangeOf
quiet = talk (holding []) None []

abbrev pub first : Entry
first = record { id = 11; text = codes "REG 1 Ann" }

-- desk 1 answers that its log has one entry
abbrev pub log_answer : Frame
log_answer =
    record { version = Three; hall = 7; from = 1; to = 0; what = what.Entries 0 1 (first ∷ []) }

-- desk 1 of three is asked for its log, and answers
abbrev pub mirror_calls : List Call
mirror_calls =
    InDialogue (Act (wish.Open 1) 0) ∷ InDialogue (Opened true) ∷ InDialogue (Act wish.Write 5)
    ∷ InDialogue (Sent (length (spelling (log_request 7 1 0))))
    ∷ InDialogue (Hear (came.Answer true) 10 (spelling log_answer)) ∷ []

abbrev pub mirror_after : MirroringOf
mirror_after =
    mirroring 7 (record { desks = 3; desk = 1; worth = worth.Useful; most = 1; behind = None })
    (line (line_stage.Answered (Some 5)) (Some quiet) 1) (first ∷ []) None

abbrev pub stands : DeskStatus
stands = record {
  length = 1;
  waiting = 0;
  role = Idle;
  promised = None;
  told = OfThree (1 ∷ 0 ∷ 0 ∷ []);
  differs = None;
}

abbrev pub status_answer : Frame
status_answer =
    record { version = Five; hall = 7; from = 1; to = 0; what = what.Standing stands }

-- it is asked how it is, and answers
abbrev pub survey_calls : List Dialogues.Call
survey_calls =
    Act (wish.Open 1) 0 ∷ Opened true ∷ Act wish.Write 5
    ∷ Sent (length (spelling (status_request_in_five 7 1)))
    ∷ Hear (came.Answer true) 10 (spelling status_answer) ∷ []

abbrev pub survey_after : SurveyOf
survey_after =
    survey 7 1 (line (line_stage.Answered (Some 5)) (Some quiet) 1)
    (Some (record { standing = stands; at = 10 })) contact.Answers false

pub record WorksDialogues : Type 0 where
  pub mirrors : CallsLead CallLeads (new_mirroring 7 3) mirror_calls mirror_after
  pub surveys : CallsLead DialogueLeads (new_survey 7 1) survey_calls survey_after
