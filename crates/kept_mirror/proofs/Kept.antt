-- What is held after calls: what desks of the hall answered.
use Rattle.std.proofs.Common.{◌≡◌, ◌-◌, ◌∷◌, ◌++◌, [], ℕ, List, Option, None, Some, Bool, true}
use Rattle.std.proofs.Common.{false, Ok, inl, inr, refl, sym, subst, ap, length, ◌∙◌, if◌then◌else◌}
use Rattle.std.specs.Prelude.{◌&&◌, ◌==◌, ◌⊎◌}
use Rattle.acceptor.specs.declared.entry.Entry.{Entry}
use Rattle.client.specs.Answers.{answers, fits, judged, judged_what}
use Rattle.client.specs.Standings.{await_request, log_request}
use Rattle.log_follower.specs.Following.{action_of, goes_on, line_answered, line_begun}
use Rattle.log_follower.specs.Following.{line_hurried_by}
use Rattle.log_follower.specs.declared.stages.{AnswerWorth.AnswerWorth, FollowAction.FollowAction}
use Rattle.wire.specs.declared.frame.{Frame.Frame, FrameBody.FrameBody}
use Rattle.desk_talks.specs.Dialogues.{Act, CallsLead, Hear, Lost, Opened, Sent}
use Rattle.desk_talks.specs.{Exchanges.asking, declared.dialogue.ReceiveOutcome.ReceiveOutcome}
use Rattle.desk_talks.specs.KeptConnections.{HearsOver, KeptConnectionOf, closed, is_closed}
use Rattle.desk_talks.specs.{KeptConnections.sent_by, declared.exchange.AnswerOutcome.AnswerOutcome}
use Rattle.desk_talks.specs.declared.dialogue.DialogueAction.{DialogueAction}
use Rattle.desk_talks.proofs.Saying.{IsAnsweredBy, SaysOver, answered_over, asks_over, hears_over}
use Rattle.desk_talks.proofs.Saying.{opens_over, sent_over}
use Rattle.kept_mirror.specs.Histories.{Answer, AsksWhereItEnds, HoldsWhatWasAnswered, TakesAnswers}
use Rattle.kept_mirror.specs.Histories.{Await, Call, CallLeads, Hurry, InDialogue, IsAskedFrom}
use Rattle.kept_mirror.specs.Mirrorings.{ActsBy, Follows, Opens, awaiting, begun, given_up, hurried}
use Rattle.kept_mirror.specs.Mirrorings.{Asks, FollowsTold, MirroringOf, new_mirroring, question_by}
use Rattle.kept_mirror.specs.Mirrorings.{after_told, answering, is_within, mirroring, with_line}
use Rattle.log_follower.specs.Following as follow
use Rattle.log_follower.specs.declared.stages.AnswerWorth.TheVariants as worth
use Rattle.log_follower.specs.declared.stages.FollowAction.TheVariants as action
use Rattle.wire.specs.declared.frame.FrameBody.TheVariants as what
use Rattle.desk_talks.specs.declared.dialogue.DialogueAction.TheVariants as wish
use Rattle.desk_talks.specs.declared.exchange.AnswerOutcome.TheVariants as heard

-- a question asks a desk of the hall for its log, or for a command
abbrev AsksSo : ℕ → Frame → Type 0
AsksSo hall q =
    ((desk : ℕ) × (asked : ℕ) × (q ≡ log_request hall desk asked))
    ⊎ ((desk : ℕ) × (id : ℕ) × (q ≡ await_request hall desk id 1))

-- it is of this hall, and the question that waits, if one does, asks a desk of the hall
record IsOf (hall : ℕ) (m : MirroringOf) : Type 0 where
  hall_is : m.hall ≡ hall
  says : SaysOver (AsksSo hall) m.line.talking

-- after a call it is so, and where these entries were held, answers were taken
record Kept (hall : ℕ) (held : List Entry) (new : MirroringOf) : Type 0 where
  of : IsOf hall new
  answers : List (Answer hall)
  takes : TakesAnswers held answers new.entries

same_as : (hall : ℕ) (old new that : MirroringOf) → new ≡ that → that.hall ≡ hall
    → SaysOver (AsksSo hall) that.line.talking → that.entries ≡ old.entries
    → Kept hall old.entries new
same_as hall old new that e hall_is says entries =
    subst (λ m. Kept hall old.entries m) (sym e)
    (record { of = record { hall_is = hall_is; says = says }; answers = []; takes = entries })

-- the connection is closed, and no question waits
quiet : (hall : ℕ) (old new : MirroringOf) → IsOf hall old → new ≡ given_up old
    → Kept hall old.entries new
quiet hall old new of e = same_as hall old new (given_up old) e of.hall_is tt refl

-- ---- what is done

asked_of : (hall : ℕ) (awaits : Option ℕ) (m : MirroringOf) → m.hall ≡ hall
    → AsksSo hall (question_by awaits m)
asked_of hall None m e = inl (
  m.follower.desk,
  length m.entries - 1,
  ap (λ h. log_request h m.follower.desk (length m.entries - 1)) e,
)
asked_of hall (Some id) m e =
    inr (m.follower.desk, id, ap (λ h. await_request h m.follower.desk id 1) e)

asks : (hall : ℕ) (w : DialogueAction) (now : ℕ) (old new : MirroringOf) → IsOf hall old
    → Asks w now old new → Kept hall old.entries new
asks hall wish.Write now old new of (l, asked, e) =
    same_as hall old new (mirroring old.hall old.follower l old.entries None) e of.hall_is
    (asks_over (AsksSo hall) now (question_by old.awaits old) old.line l
    (asked_of hall old.awaits old of.hall_is) asked) refl
asks hall wish.Close now old new of e = quiet hall old new of e
asks hall _ now old new of none = absurd none

acts : (hall : ℕ) (a : FollowAction) (w : DialogueAction) (now : ℕ) (old new : MirroringOf)
    → IsOf hall old → ActsBy a w now old new → Kept hall old.entries new
acts hall (action.Ask desk) w now old new of done = asks hall w now old new of done
acts hall action.Stop w now old new of (is, e) =
    same_as hall old new (with_line old (closed old.line)) e of.hall_is tt refl
acts hall _ w now old new of (is, e) = same_as hall old new old e of.hall_is of.says refl

begun_says : (hall : ℕ) (a : FollowAction) (l : KeptConnectionOf) (now : ℕ)
    → SaysOver (AsksSo hall) l.talking → SaysOver (AsksSo hall) (line_begun a l now).talking
begun_says hall (action.Open desk) l now h = tt
begun_says hall (action.Close desk) l now h = tt
begun_says hall _ l now h = h

-- ---- what comes

opens : (hall : ℕ) (result : Bool) (old new : MirroringOf) → IsOf hall old
    → Opens result old new → Kept hall old.entries new
opens hall true old new of (l, opened, e) =
    same_as hall old new (with_line old l) e of.hall_is
    (opens_over (AsksSo hall) true old.line l opened) refl
opens hall false old new of e = quiet hall old new of e

lost_if : (hall : ℕ) (apart : Bool) (old new : MirroringOf) → IsOf hall old
    → new ≡ (if apart then record old { awaits = None } else given_up old)
    → Kept hall old.entries new
lost_if hall true old new of e =
    same_as hall old new (record old { awaits = None }) e of.hall_is of.says refl
lost_if hall false old new of e = quiet hall old new of e

answered_says : (hall : ℕ) (full : Bool) (l : KeptConnectionOf)
    → SaysOver (AsksSo hall) l.talking → SaysOver (AsksSo hall) (line_answered full l).talking
answered_says hall true l h = h
answered_says hall false l h = h

hurried_says : (hall : ℕ) (w : AnswerWorth) (l : KeptConnectionOf)
    → SaysOver (AsksSo hall) l.talking → SaysOver (AsksSo hall) (line_hurried_by w l).talking
hurried_says hall worth.Open l h = h
hurried_says hall _ l h = h

-- entries were answered to a question for a log
record IsTold (hall position len : ℕ) (entries : List Entry) : Type 0 where
  desk : ℕ
  asked : ℕ
  frame : Frame
  answers : judged (log_request hall desk asked) frame ≡ Ok (what.Entries position len entries)

judged_as : (own : Bool) (given answer : FrameBody) → judged_what given own ≡ Ok answer
    → given ≡ answer
judged_as true (what.Refused refusal) answer h = absurd cc
judged_as true _ answer h = cc
judged_as false (what.Refused refusal) answer h = absurd cc
judged_as false _ answer h = absurd cc

-- entries are no answer to a question for a command
told_apart : (hall desk id position len : ℕ) (entries : List Entry) (given : Frame)
    → judged (await_request hall desk id 1) given ≡ Ok (what.Entries position len entries) → ⊥
told_apart hall desk id position len entries given h =
    let asked = await_request hall desk id 1 in
    let ours = given.hall == asked.hall && given.from == asked.to in
    let is = judged_as (answers asked given) given.what (what.Entries position len entries) h in
    none ours (subst (λ w. judged_what w (ours && fits asked.what w)
    ≡ Ok (what.Entries position len entries)) is h)
  where
    none : (ours : Bool) → judged_what (what.Entries position len entries) (ours && false)
        ≡ Ok (what.Entries position len entries) → ⊥
    none true h = cc
    none false h = cc

told_by : (hall position len : ℕ) (entries : List Entry)
    → IsAnsweredBy (AsksSo hall) (what.Entries position len entries)
    → IsTold hall position len entries
told_by hall position len entries (question, frame, inl (desk, from, is), answered) = record {
  desk = desk;
  asked = from;
  frame = frame;
  answers = subst (λ f. judged f frame ≡ Ok (what.Entries position len entries)) is answered;
}
told_by hall position len entries (question, frame, inr (desk, id, is), answered) =
    absurd (told_apart hall desk id position len entries frame
    (subst (λ f. judged f frame ≡ Ok (what.Entries position len entries)) is answered))

grows : (hall : ℕ) (within : Bool) (c : ReceiveOutcome) (now position len : ℕ)
    (entries : List Entry)
    (old new : MirroringOf) → IsOf hall old → IsTold hall position len entries
    → FollowsTold within c now position len entries old new → Kept hall old.entries new
grows hall true c now position len entries old new of told g = record {
  of =
      subst (IsOf hall) (sym g.after) (record {
        hall_is = of.hall_is;
        says =
            answered_says hall (goes_on g.taken (length new.entries) len) old.line of.says;
      });
  answers =
      record {
        desk = told.desk;
        asked = told.asked;
        frame = told.frame;
        position = position;
        len = len;
        entries = entries;
        answers = told.answers;
        outcome = g.taken;
      } ∷ [];
  takes = (new.entries, g.takes, refl);
}
grows hall false c now position len entries old new of told (is, e) = quiet hall old new of e

follows : (hall : ℕ) (told : AnswerOutcome) (c : ReceiveOutcome) (now : ℕ) (piece : List ℕ)
    (before : KeptConnectionOf) (old new : MirroringOf) → IsOf hall old
    → SaysOver (AsksSo hall) before.talking → HearsOver told piece before old.line
    → Follows told c now old new → Kept hall old.entries new
follows hall heard.Waits c now piece before old new of says hears (is, e) =
    same_as hall old new old e of.hall_is of.says refl
follows hall (heard.Answer (what.Entries position len entries)) c now piece before old new of says
    hears f =
    grows hall (is_within position entries) c now position len entries old new of
    (told_by hall position len entries
    (answered_over (AsksSo hall) (what.Entries position len entries) piece before old.line says
    hears)) f
follows hall (heard.Answer (what.Told id state)) c now piece before old new of says hears (is, e)
    =
    let told = answering (record old { awaits = None }) now None old.entries 0 in
    same_as hall old new (after_told old now) e of.hall_is
    (hurried_says hall told.follower.worth told.line
    (answered_says hall (goes_on None (length old.entries) 0) old.line of.says)) refl
follows hall (heard.Answer _) c now piece before old new of says hears (is, e) =
    quiet hall old new of e
follows hall _ c now piece before old new of says hears (is, e) = quiet hall old new of e

-- ---- calls

call_keeps : (hall : ℕ) (call : Call) (old new : MirroringOf) → IsOf hall old
    → CallLeads call old new → Kept hall old.entries new
call_keeps hall (InDialogue (Act w now)) old new of h =
    let done = action_of old.follower old.line now in
    acts hall done w now (begun now old) new
    (record { hall_is = of.hall_is; says = begun_says hall done old.line now of.says }) h
call_keeps hall (InDialogue (Opened result)) old new of h = opens hall result old new of h
call_keeps hall (InDialogue (Lost ended)) old new of h =
    lost_if hall (is_closed old.line.stage) old new of h
call_keeps hall (InDialogue (Sent count)) old new of h =
    same_as hall old new (with_line old (sent_by old.line count)) h of.hall_is
    (sent_over (AsksSo hall) count old.line of.says) refl
call_keeps hall (InDialogue (Hear c now piece)) old new of h =
    follows hall h.heard c now piece old.line (with_line old h.line) new (record {
      hall_is = of.hall_is;
      says = hears_over (AsksSo hall) h.heard piece old.line h.line of.says h.hears;
    }) of.says h.hears h.follows
call_keeps hall Hurry old new of h =
    same_as hall old new (hurried old) h of.hall_is
    (hurried_says hall old.follower.worth old.line of.says) refl
call_keeps hall (Await id) old new of h =
    same_as hall old new (awaiting old id) h of.hall_is
    (hurried_says hall old.follower.worth old.line of.says) refl

-- answers that were taken after others
joined : {hall : ℕ} (xs ys : List (Answer hall)) (a b c : List Entry)
    → TakesAnswers a xs b → TakesAnswers b ys c → TakesAnswers a (xs ++ ys) c
joined [] ys a b c first later = subst (λ held. TakesAnswers held ys c) first later
joined (x ∷ xs) ys a b c (next, takes, more) later =
    (next, takes, joined xs ys next b c more later)

calls_keep : (hall : ℕ) (calls : List Call) (old new : MirroringOf) → IsOf hall old
    → CallsLead CallLeads old calls new → Kept hall old.entries new
calls_keep hall [] old new of e = same_as hall old new old e of.hall_is of.says refl
calls_keep hall (call ∷ more) old new of (next, leads, rest) =
    let first = call_keeps hall call old next of leads in
    let later = calls_keep hall more next new first.of rest in
    record {
      of = later.of;
      answers = first.answers ++ later.answers;
      takes =
          joined first.answers later.answers old.entries next.entries new.entries first.takes
          later.takes;
    }

pub holds_what_was_answered : HoldsWhatWasAnswered
holds_what_was_answered hall desks calls after leads =
    let kept = calls_keep hall calls (new_mirroring hall desks) after
    (record { hall_is = refl; says = tt }) leads in
    (kept.answers, kept.takes)

-- ---- where a desk is asked from

asked_from : (a : FollowAction) (now : ℕ) (old new : MirroringOf)
    → ActsBy a wish.Write now (mirroring old.hall (follow.begun a old.follower)
    (line_begun a old.line now) old.entries old.awaits) new
    → old.awaits ≡ None → IsAskedFrom old new
asked_from (action.Ask desk) now old new done none =
    let (l, (t, is, at), e) = done in
    let m : MirroringOf =
    mirroring old.hall (follow.begun (action.Ask desk) old.follower) old.line old.entries old.awaits
    in (
      asking t (question_by old.awaits m),
      ap (λ (z : MirroringOf). z.line.talking) e ∙ ap (λ (z : KeptConnectionOf). z.talking) at,
      ap (λ z. Some (question_by z m)) none,
    )
asked_from _ now old new (is, e) none = absurd (let other = is in cc)

pub asks_where_it_ends : AsksWhereItEnds
asks_where_it_ends now old new acted none =
    asked_from (action_of old.follower old.line now) now old new acted none
