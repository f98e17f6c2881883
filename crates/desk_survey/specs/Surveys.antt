-- A survey of one desk (the project's own).
use Rattle.std.specs.Prelude.{ℕ, ◌≡◌, List, Option, None, Some, Bool, true, false, not, ◌&&◌}
use Rattle.std.specs.Prelude.{if◌then◌else◌}
use Rattle.client.specs.Standings.{status_request, status_request_in_five}
use Rattle.wire.specs.declared.frame.{Frame.Frame, FrameBody.FrameBody}
use Rattle.desk_talks.specs.{Dialogues.Act, Dialogues.Call, KeptConnections.Opens as OpensLine}
use Rattle.desk_talks.specs.{Dialogues.Hear, declared.dialogue.ReceiveOutcome.ReceiveOutcome}
use Rattle.desk_talks.specs.{Dialogues.Lost, declared.dialogue.DialogueAction.DialogueAction}
use Rattle.desk_talks.specs.{Dialogues.Opened, declared.kept_connection.DueAction.DueAction}
use Rattle.desk_talks.specs.{Dialogues.Sent, declared.exchange.AnswerOutcome.AnswerOutcome}
use Rattle.desk_talks.specs.KeptConnections.{AsksOver, HearsOver, KeptConnectionOf, closed, due_of}
use Rattle.desk_talks.specs.KeptConnections.{new_line, opening, sent_by as line_sent_by}
use Rattle.desk_talks.specs.declared.kept_connection.ConnectionStage.{ConnectionStage}
use Rattle.desk_survey.specs.declared.survey.{Reachability.Reachability, SurveyAnswer.SurveyAnswer}
use Rattle.wire.specs.declared.frame.FrameBody.TheVariants as what
use Rattle.desk_talks.specs.declared.dialogue.ReceiveOutcome.TheVariants as came
use Rattle.desk_talks.specs.declared.dialogue.DialogueAction.TheVariants as wish
use Rattle.desk_talks.specs.declared.kept_connection.DueAction.TheVariants as due
use Rattle.desk_talks.specs.declared.kept_connection.ConnectionStage.TheVariants as stage
use Rattle.desk_talks.specs.declared.exchange.AnswerOutcome.TheVariants as heard
use Rattle.desk_survey.specs.declared.survey.Reachability.TheVariants as contact

-- the number of the hall and of the desk, the connection, what the desk said last, whether it
-- answers, and whether it is asked as a desk of an earlier program next
pub record SurveyOf : Type 0 where
  pub hall : ℕ
  pub desk : ℕ
  pub line : KeptConnectionOf
  pub told : Option SurveyAnswer
  pub contact : Reachability
  pub earlier : Bool

abbrev pub survey : ℕ → ℕ → KeptConnectionOf → Option SurveyAnswer → Reachability → Bool → SurveyOf
survey hall desk line told contact earlier = record {
  hall = hall;
  desk = desk;
  line = line;
  told = told;
  contact = contact;
  earlier = earlier;
}

-- the desk is asked four times a second, and was not asked yet
abbrev pub new_survey : ℕ → ℕ → SurveyOf
new_survey hall desk = survey hall desk new_line None contact.NotAsked false

-- what the desk said last
abbrev pub held : SurveyOf → Option SurveyAnswer
held s = s.told

abbrev pub with_line : SurveyOf → KeptConnectionOf → SurveyOf
with_line s line = survey s.hall s.desk line s.told s.contact s.earlier

abbrev pub is_answering : Reachability → Bool
is_answering contact.Answers = true
is_answering _ = false

abbrev pub is_asked : ConnectionStage → Bool
is_asked (stage.Asked since) = true
is_asked _ = false

-- A desk of an earlier program ends a connection over which it is asked in version 5: so, where one
-- is lost over which it was asked so and no answer came, it is asked in version 3 over the next
-- one. One that answers is asked on in the same version, and any other in version 5 again.
abbrev pub is_earlier : SurveyOf → Bool
is_earlier s =
    if is_answering s.contact then s.earlier else (not s.earlier && is_asked s.line.stage)

-- the connection is lost
abbrev pub lost : SurveyOf → SurveyOf
lost s = survey s.hall s.desk (closed s.line) s.told contact.Silent (is_earlier s)

-- memory was refused for it
abbrev pub given_up : SurveyOf → SurveyOf
given_up s = survey s.hall s.desk (closed s.line) s.told contact.Silent s.earlier

-- how the desk is asked
abbrev pub question : SurveyOf → Frame
question s =
    if s.earlier then status_request s.hall s.desk else status_request_in_five s.hall s.desk

-- it answers, and was asked in version 5
abbrev pub speaks_five : SurveyOf → Bool
speaks_five s = is_answering s.contact && not s.earlier

-- ---- what is done

-- The desk is asked how it is. Where there is no connection, or memory is refused, it is lost.
abbrev pub Asks : DialogueAction → ℕ → SurveyOf → SurveyOf → Type 0
Asks wish.Write now old new =
    (after : KeptConnectionOf) × AsksOver true now (question old) old.line after
    × (new ≡ with_line old after)
Asks wish.Close now old new = new ≡ given_up old
Asks _ now old new = ⊥

-- a connection over which the desk answers no more is closed, and the desk is not silent for that
abbrev pub ActsBy : DueAction → DialogueAction → ℕ → SurveyOf → SurveyOf → Type 0
ActsBy due.Rest w now old new = (w ≡ wish.Rest) × (new ≡ old)
ActsBy due.Open w now old new =
    (w ≡ wish.Open old.desk) × (new ≡ with_line old (opening old.line now))
ActsBy due.Ask w now old new = Asks w now old new
ActsBy due.Close w now old new = (w ≡ wish.Close) × (new ≡ lost old)
ActsBy due.Renew w now old new = (w ≡ wish.Close) × (new ≡ with_line old (closed old.line))

abbrev pub Acts : DialogueAction → ℕ → SurveyOf → SurveyOf → Type 0
Acts w now old new = ActsBy (due_of old.line now) w now old new

-- ---- what comes

-- the connection is open; where memory is refused, it is lost
abbrev pub Opens : Bool → SurveyOf → SurveyOf → Type 0
Opens true old new =
    (after : KeptConnectionOf) × OpensLine true old.line after × (new ≡ with_line old after)
Opens false old new = new ≡ given_up old

abbrev pub sent_by : SurveyOf → ℕ → SurveyOf
sent_by s count = with_line s (line_sent_by s.line count)

abbrev pub Fails : ReceiveOutcome → SurveyOf → SurveyOf → Type 0
Fails c old new = (c ≡ came.NoAnswer) × (new ≡ lost old)

-- what follows of an answer: it says how the desk is now
abbrev pub FollowsAnswer : FrameBody → ReceiveOutcome → ℕ → SurveyOf → SurveyOf → Type 0
FollowsAnswer (what.Standing standing) c now old new =
    (c ≡ came.Answer true)
    × (new ≡ survey old.hall old.desk old.line (Some (record { standing = standing; at = now }))
    contact.Answers old.earlier)
FollowsAnswer _ c now old new = Fails c old new

-- what follows of what the desk's bytes came to
abbrev pub Follows : AnswerOutcome → ReceiveOutcome → ℕ → SurveyOf → SurveyOf → Type 0
Follows heard.Waits c now old new = (c ≡ came.Nothing) × (new ≡ old)
Follows (heard.Answer answer) c now old new = FollowsAnswer answer c now old new
Follows (heard.Refused refusal) c now old new =
    (c ≡ came.Answer false)
    × (new ≡ survey old.hall old.desk old.line old.told (contact.Refuses refusal) old.earlier)
Follows heard.NoAnswer c now old new = Fails c old new

-- what the bytes come to over the connection, and what follows of it
pub record HearsDesk (c : ReceiveOutcome) (now : ℕ) (piece : List ℕ)
    (old new : SurveyOf) : Type 0 where
  pub heard : AnswerOutcome
  pub after : KeptConnectionOf
  pub hears : HearsOver heard piece old.line after
  pub follows : Follows heard c now (with_line old after) new

-- what the contract of each call of the dialogue says
abbrev pub DialogueLeads : Call → SurveyOf → SurveyOf → Type 0
DialogueLeads (Act w now) old new = Acts w now old new
DialogueLeads (Opened result) old new = Opens result old new
DialogueLeads (Lost ended) old new = new ≡ lost old
DialogueLeads (Sent count) old new = new ≡ sent_by old count
DialogueLeads (Hear c now piece) old new = HearsDesk c now piece old new
