-- A connection over which a follower asks: whether a question waits over it.
use Rattle.std.proofs.Common.{◌≡◌, refl, sym, ap, ◌∙◌, ℕ, List, [], ◌∷◌, inl, inr, Bool, true}
use Rattle.std.proofs.Common.{false, Option, None, Some}
use Rattle.std.specs.Prelude.{option_map}
use Rattle.wire.specs.declared.frame.{Frame.Frame, FrameBody.FrameBody}
use Rattle.desk_talks.specs.Exchanges.{ExchangeOf, Hears, heard_of, question_after, sending}
use Rattle.desk_talks.specs.KeptConnections.{HearsAt, HearsOver, KeptConnectionOf, answered_stage}
use Rattle.desk_talks.specs.KeptConnections.{closed, hurried, hurried_stage, open_at_once}
use Rattle.log_follower.specs.declared.stages.{AnswerWorth.AnswerWorth, FollowAction.FollowAction}
use Rattle.log_follower.specs.declared.stages.FollowAction.TheVariants.{Open, Close}
use Rattle.log_follower.specs.Following.{line_answered, line_begun, line_hurried_by}
use Rattle.log_follower.specs.Histories.{Moves}
use Rattle.desk_talks.specs.declared.exchange.AnswerOutcome.TheVariants as heard
use Rattle.desk_talks.specs.declared.kept_connection.ConnectionStage.TheVariants as stage
use Rattle.log_follower.specs.declared.stages.AnswerWorth.TheVariants as worth

abbrev question_in : Option ExchangeOf → Option Frame
question_in None = None
question_in (Some t) = t.question

-- where a question waits over the connection, its stage says so
abbrev pub IsAsking : KeptConnectionOf → Type 0
IsAsking l =
    (question : Frame) → question_in l.talking ≡ Some question
    → (since : ℕ) × (l.stage ≡ stage.Asked since)

-- no question waits over it
pub silent : (l : KeptConnectionOf) → question_in l.talking ≡ None → IsAsking l
silent l none question e = absurd (let bad : None ≡ Some question = sym none ∙ e in cc)

-- ---- what bytes come to

answered_by : (question : Option Frame) (frames : List Frame) (answer : FrameBody)
    → heard.Answer answer ≡ heard_of question frames
    → ((asked : Frame) × (question ≡ Some asked)) × (question_after question frames ≡ None)
answered_by question [] answer e = absurd cc
answered_by None (given ∷ more) answer e = absurd cc
answered_by (Some asked) (given ∷ more) answer e = ((asked, refl), refl)

-- an answer came over the connection: a question waited, and none does any more
pub record HasAnswered (old new : KeptConnectionOf) : Type 0 where
  pub question : Frame
  pub waits : question_in old.talking ≡ Some question
  pub unasked : question_in new.talking ≡ None
  pub stage_is : new.stage ≡ answered_stage old.stage

answered_at : (talking : Option ExchangeOf) (answer : FrameBody) (piece : List ℕ)
    (old new : KeptConnectionOf) → old.talking ≡ talking
    → HearsAt talking (heard.Answer answer) piece old new → HasAnswered old new
answered_at None answer piece old new at (none, same) =
    absurd (let bad : heard.Answer answer ≡ heard.Waits = none in cc)
answered_at (Some t) answer piece old new at (after, inl h, is) =
    let by = answered_by t.question h.frames answer h.heard_is in
    record {
      question = by.0.0;
      waits = ap question_in at ∙ by.0.1;
      unasked = ap (λ (z : KeptConnectionOf). question_in z.talking) is ∙ (h.question_is ∙ by.1);
      stage_is = ap (λ (z : KeptConnectionOf). z.stage) is;
    }
answered_at (Some t) answer piece old new at (after, inr h, is) =
    absurd (let bad : heard.Answer answer ≡ heard.NoAnswer = h.heard_is in cc)

pub answered_over : (answer : FrameBody) (piece : List ℕ) (old new : KeptConnectionOf)
    → HearsOver (heard.Answer answer) piece old new → HasAnswered old new
answered_over answer piece old new h = answered_at old.talking answer piece old new refl h

-- bytes that were written, or came and are no whole answer: the stage stays
pub record HasMoved (old new : KeptConnectionOf) : Type 0 where
  pub stage_is : new.stage ≡ old.stage
  pub waits : (question : Frame) → question_in new.talking ≡ Some question
      → question_in old.talking ≡ Some question

waited_before : (question : Option Frame) (frames : List Frame) (asked : Frame)
    → question_after question frames ≡ Some asked → question ≡ Some asked
waited_before question [] asked e = e
waited_before question (given ∷ more) asked e = absurd (let bad : None ≡ Some asked = e in cc)

sent_question : (talking : Option ExchangeOf) (count : ℕ)
    → question_in (option_map (λ t. sending t count) talking) ≡ question_in talking
sent_question None count = refl
sent_question (Some t) count = refl

heard_before : (piece : List ℕ) (t after : ExchangeOf) (asked : Frame)
    → Hears heard.Waits piece t after → after.question ≡ Some asked → t.question ≡ Some asked
heard_before piece t after asked (inl h) e =
    waited_before t.question h.frames asked (sym h.question_is ∙ e)
heard_before piece t after asked (inr h) e = sym h.question_is ∙ e

waited_at : (talking : Option ExchangeOf) (piece : List ℕ) (old new : KeptConnectionOf)
    → old.talking ≡ talking → HearsAt talking heard.Waits piece old new → HasMoved old new
waited_at None piece old new at (none, same) = record {
  stage_is = ap (λ (z : KeptConnectionOf). z.stage) same;
  waits = λ asked e. sym (ap (λ (z : KeptConnectionOf). question_in z.talking) same) ∙ e;
}
waited_at (Some t) piece old new at (after, h, is) = record {
  stage_is = ap (λ (z : KeptConnectionOf). z.stage) is;
  waits =
      λ asked e. ap question_in at
      ∙ heard_before piece t after asked h
      (sym (ap (λ (z : KeptConnectionOf). question_in z.talking) is) ∙ e);
}

pub moved_over : (old new : KeptConnectionOf) → Moves old new → HasMoved old new
moved_over old new (inl (count, is)) = record {
  stage_is = ap (λ (z : KeptConnectionOf). z.stage) is;
  waits =
      λ asked e.
      sym (ap (λ (z : KeptConnectionOf). question_in z.talking) is
      ∙ sent_question old.talking count) ∙ e;
}
moved_over old new (inr (piece, h)) = waited_at old.talking piece old new refl h

-- ---- after a call

pub moved_asking : (old new : KeptConnectionOf) → HasMoved old new → IsAsking old → IsAsking new
moved_asking old new moved k asked e =
    let at = k asked (moved.waits asked e) in (at.0, moved.stage_is ∙ at.1)

pub begun_asking : (done : FollowAction) (l : KeptConnectionOf) (now : ℕ) → IsAsking l
    → IsAsking (line_begun done l now)
begun_asking (Open desk) l now k = silent (line_begun (Open desk) l now) refl
begun_asking (Close desk) l now k = silent (closed l) refl
begun_asking _ l now k = k

hurried_asking : (l : KeptConnectionOf) → IsAsking l → IsAsking (hurried l)
hurried_asking l k question e = let at = k question e in (at.0, ap hurried_stage at.1)

pub answered_asking : (full : Bool) (l : KeptConnectionOf) → IsAsking l
    → IsAsking (line_answered full l)
answered_asking true l k = hurried_asking l k
answered_asking false l k = k

pub hurried_by : (w : AnswerWorth) (l : KeptConnectionOf) → IsAsking l
    → IsAsking (line_hurried_by w l)
hurried_by worth.Useful l k =
    λ question e. let at = hurried_asking l k question e in (at.0, ap open_at_once at.1)
hurried_by _ l k = k
