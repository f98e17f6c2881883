-- What a survey tells after calls: what the desk answered.
use Rattle.std.proofs.Common.{◌≡◌, ℕ, List, [], ◌∷◌, Option, None, Some, Bool, true, false, refl}
use Rattle.std.proofs.Common.{sym, subst, ap, ◌∙◌, Ok, inl, inr, if◌then◌else◌}
use Rattle.client.specs.{Answers.judged, Standings.status_request, Standings.status_request_in_five}
use Rattle.wire.specs.declared.frame.{Frame.Frame, FrameBody.FrameBody}
use Rattle.desk_talks.specs.Dialogues.{Act, Call, CallsLead, Hear, Lost, Opened, Sent}
use Rattle.desk_talks.specs.KeptConnections.{HearsOver, KeptConnectionOf, due_of}
use Rattle.desk_talks.specs.declared.dialogue.ReceiveOutcome.{ReceiveOutcome}
use Rattle.desk_talks.specs.declared.dialogue.DialogueAction.{DialogueAction}
use Rattle.desk_talks.{specs.declared.kept_connection.DueAction.DueAction, proofs.Saying.opens_over}
use Rattle.desk_talks.{specs.declared.exchange.AnswerOutcome.AnswerOutcome, proofs.Saying.sent_over}
use Rattle.desk_talks.proofs.Saying.{IsAnsweredBy, SaysOver, answered_over, asks_over, hears_over}
use Rattle.desk_survey.specs.Histories.{AsksHow, IsAnswered, TellsWhatWasAnswered}
use Rattle.desk_survey.specs.Surveys.{ActsBy, Asks, DialogueLeads, Follows, FollowsAnswer, Opens}
use Rattle.desk_survey.specs.Surveys.{SurveyOf, given_up, lost, new_survey, question, with_line}
use Rattle.desk_survey.specs.declared.survey.SurveyAnswer.{SurveyAnswer}
use Rattle.wire.specs.declared.frame.FrameBody.TheVariants as what
use Rattle.desk_talks.specs.declared.dialogue.DialogueAction.TheVariants as wish
use Rattle.desk_talks.specs.declared.kept_connection.DueAction.TheVariants as due
use Rattle.desk_talks.specs.declared.exchange.AnswerOutcome.TheVariants as heard

abbrev IsQuestion : ℕ → ℕ → Frame → Type 0
IsQuestion hall desk question = AsksHow hall desk question

abbrev IsToldOf : ℕ → ℕ → Option SurveyAnswer → Type 0
IsToldOf hall desk None = Unit {0}
IsToldOf hall desk (Some told) = IsAnswered hall desk told

-- it is of this desk, which is asked how it is and nothing else, and what it tells was answered
record IsOf (hall desk : ℕ) (s : SurveyOf) : Type 0 where
  hall_is : s.hall ≡ hall
  desk_is : s.desk ≡ desk
  says : SaysOver (IsQuestion hall desk) s.line.talking
  told : IsToldOf hall desk s.told

over : (hall desk : ℕ) (s : SurveyOf) (line : KeptConnectionOf) → IsOf hall desk s
    → SaysOver (IsQuestion hall desk) line.talking → IsOf hall desk (with_line s line)
over hall desk s line of says =
    record { hall_is = of.hall_is; desk_is = of.desk_is; says = says; told = of.told }

after_lost : (hall desk : ℕ) (old new : SurveyOf) → IsOf hall desk old → new ≡ lost old
    → IsOf hall desk new
after_lost hall desk old new of e =
    subst (IsOf hall desk) (sym e)
    (record { hall_is = of.hall_is; desk_is = of.desk_is; says = tt; told = of.told })

after_given_up : (hall desk : ℕ) (old new : SurveyOf) → IsOf hall desk old
    → new ≡ given_up old → IsOf hall desk new
after_given_up hall desk old new of e =
    subst (IsOf hall desk) (sym e)
    (record { hall_is = of.hall_is; desk_is = of.desk_is; says = tt; told = of.told })

asks_how : (hall desk : ℕ) (earlier : Bool) → AsksHow hall desk
    (if earlier then status_request hall desk else status_request_in_five hall desk)
asks_how hall desk true = inl refl
asks_how hall desk false = inr refl

question_is : (hall desk : ℕ) (s : SurveyOf) → IsOf hall desk s → AsksHow hall desk (question s)
question_is hall desk s of =
    subst (λ h. AsksHow h desk (question s)) of.hall_is
    (subst (λ d. AsksHow s.hall d (question s)) of.desk_is (asks_how s.hall s.desk s.earlier))

after_ask : (hall desk : ℕ) (w : DialogueAction) (now : ℕ) (old new : SurveyOf) → IsOf hall desk old
    → Asks w now old new → IsOf hall desk new
after_ask hall desk wish.Write now old new of (line, asks, e) =
    subst (IsOf hall desk) (sym e) (over hall desk old line of
    (asks_over (IsQuestion hall desk) now (question old) old.line line
    (question_is hall desk old of) asks))
after_ask hall desk wish.Close now old new of e = after_given_up hall desk old new of e
after_ask hall desk wish.Rest now old new of none = absurd none
after_ask hall desk (wish.Open d) now old new of none = absurd none
after_ask hall desk wish.Stop now old new of none = absurd none

after_act : (hall desk : ℕ) (is : DueAction) (w : DialogueAction) (now : ℕ) (old new : SurveyOf)
    → IsOf hall desk old → ActsBy is w now old new → IsOf hall desk new
after_act hall desk due.Rest w now old new of (is, e) = subst (IsOf hall desk) (sym e) of
after_act hall desk due.Open w now old new of (is, e) =
    subst (IsOf hall desk) (sym e) (over hall desk old _ of tt)
after_act hall desk due.Ask w now old new of asks = after_ask hall desk w now old new of asks
after_act hall desk due.Close w now old new of (is, e) = after_lost hall desk old new of e
after_act hall desk due.Renew w now old new of (is, e) =
    subst (IsOf hall desk) (sym e) (over hall desk old _ of tt)

after_opened : (hall desk : ℕ) (opened : Bool) (old new : SurveyOf) → IsOf hall desk old
    → Opens opened old new → IsOf hall desk new
after_opened hall desk true old new of (line, opens, e) =
    subst (IsOf hall desk) (sym e) (over hall desk old line of
    (opens_over (IsQuestion hall desk) true old.line line opens))
after_opened hall desk false old new of e = after_given_up hall desk old new of e

-- an answer to a question of this desk
is_answered : (hall desk : ℕ) (told : SurveyAnswer)
    → IsAnsweredBy (IsQuestion hall desk) (what.Standing told.standing) → IsAnswered hall desk told
is_answered hall desk told (asked, frame, is, judges) =
    record { asked = asked; frame = frame; asks = is; answers = judges }

after_answer : (hall desk : ℕ) (answer : FrameBody) (c : ReceiveOutcome) (now : ℕ)
    (old new : SurveyOf) → IsOf hall desk old → IsAnsweredBy (IsQuestion hall desk) answer
    → FollowsAnswer answer c now old new → IsOf hall desk new
after_answer hall desk (what.Standing standing) c now old new of answered (is, e) =
    subst (IsOf hall desk) (sym e) (record {
      hall_is = of.hall_is;
      desk_is = of.desk_is;
      says = of.says;
      told = is_answered hall desk (record { standing = standing; at = now }) answered;
    })
after_answer hall desk _ c now old new of answered (is, e) = after_lost hall desk old new of e

after_heard : (hall desk : ℕ) (told : AnswerOutcome) (c : ReceiveOutcome) (now : ℕ) (piece : List ℕ)
    (old : SurveyOf) (line : KeptConnectionOf) (new : SurveyOf) → IsOf hall desk old
    → HearsOver told piece old.line line → IsOf hall desk (with_line old line)
    → Follows told c now (with_line old line) new → IsOf hall desk new
after_heard hall desk heard.Waits c now piece old line new before hears of (is, e) =
    subst (IsOf hall desk) (sym e) of
after_heard hall desk (heard.Answer answer) c now piece old line new before hears of follows =
    after_answer hall desk answer c now (with_line old line) new of
    (answered_over (IsQuestion hall desk) answer piece old.line line before.says hears) follows
after_heard hall desk (heard.Refused refusal) c now piece old line new before hears of (is, e) =
    subst (IsOf hall desk) (sym e)
    (record { hall_is = of.hall_is; desk_is = of.desk_is; says = of.says; told = of.told })
after_heard hall desk heard.NoAnswer c now piece old line new before hears of (is, e) =
    after_lost hall desk (with_line old line) new of e

after_call : (hall desk : ℕ) (call : Call) (old new : SurveyOf) → IsOf hall desk old
    → DialogueLeads call old new → IsOf hall desk new
after_call hall desk (Act w now) old new of h =
    after_act hall desk (due_of old.line now) w now old new of h
after_call hall desk (Opened opened) old new of h = after_opened hall desk opened old new of h
after_call hall desk (Lost ended) old new of h = after_lost hall desk old new of h
after_call hall desk (Sent count) old new of h =
    subst (IsOf hall desk) (sym h)
    (over hall desk old _ of (sent_over (IsQuestion hall desk) count old.line of.says))
after_call hall desk (Hear c now piece) old new of h =
    after_heard hall desk h.heard c now piece old h.after new of h.hears
    (over hall desk old h.after of
    (hears_over (IsQuestion hall desk) h.heard piece old.line h.after of.says h.hears)) h.follows

after_calls : (hall desk : ℕ) (calls : List Call) (old new : SurveyOf) → IsOf hall desk old
    → CallsLead DialogueLeads old calls new → IsOf hall desk new
after_calls hall desk [] old new of e = subst (IsOf hall desk) (sym e) of
after_calls hall desk (call ∷ more) old new of (next, leads, rest) =
    after_calls hall desk more next new (after_call hall desk call old next of leads) rest

pub tells_what_was_answered : TellsWhatWasAnswered
tells_what_was_answered hall desk calls after told leads is =
    let of = after_calls hall desk calls (new_survey hall desk) after
    (record { hall_is = refl; desk_is = refl; says = tt; told = tt }) leads in
    subst (IsToldOf hall desk) is of.told
