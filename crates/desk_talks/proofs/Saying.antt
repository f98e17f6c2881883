-- What is said over a connection stays what may be said, whatever calls are made: where each
-- question that is asked has a property, so has each that waits, and each whose bytes are written.
use Rattle.std.proofs.Common.{◌≡◌, ℕ, ◌+◌, List, [], ◌∷◌, Option, None, Some, Result, Ok, Err, Bool}
use Rattle.std.proofs.Common.{true, false, inl, inr, ◌⊎◌, refl, sym, subst, ap, ◌∙◌, drop}
use Rattle.std.{specs.Prelude.option_map, proofs.Math.Seq.drop-nil, proofs.lemmas.List.drop-drop}
use Rattle.client.specs.{Answers.judged, declared.fault.ClientFault.ClientFault}
use Rattle.wire.specs.Spelling.{spelling}
use Rattle.wire.specs.declared.frame.{Frame.Frame, FrameBody.FrameBody}
use Rattle.desk_talks.specs.KeptConnections.{AsksOver, HearsAt, HearsOver, KeptConnectionOf, Opens}
use Rattle.desk_talks.specs.KeptConnections.{after_heard, sent_by}
use Rattle.desk_talks.specs.Exchanges.{Hears, ExchangeOf, asking, heard_of, question_after, said_of}
use Rattle.desk_talks.specs.{Exchanges.sending, declared.exchange.AnswerOutcome.AnswerOutcome}
use Rattle.client.specs.declared.fault.ClientFault.TheVariants as fault
use Rattle.desk_talks.specs.declared.exchange.AnswerOutcome.TheVariants as heard

abbrev pub Waits : (Frame → Type 0) → Option Frame → Type 0
Waits P None = Unit {0}
Waits P (Some question) = P question

-- the bytes are none, or the end of a question
abbrev pub IsEnd : (Frame → Type 0) → List ℕ → Type 0
IsEnd P bytes =
    (bytes ≡ [])
    ⊎ ((question : Frame) × (sent : ℕ) × P question × (bytes ≡ drop sent (spelling question)))

pub record Says (P : Frame → Type 0) (t : ExchangeOf) : Type 0 where
  pub question : Waits P t.question
  pub unsent : IsEnd P t.unsent

abbrev pub SaysOver : (Frame → Type 0) → Option ExchangeOf → Type 0
SaysOver P None = Unit {0}
SaysOver P (Some t) = Says P t

says_asking : (P : Frame → Type 0) (t : ExchangeOf) (question : Frame) → P question
    → Says P (asking t question)
says_asking P t question p =
    record { question = p; unsent = inr (question, 0, p, refl) }

end_later : (P : Frame → Type 0) (count : ℕ) (bytes : List ℕ) → IsEnd P bytes
    → IsEnd P (drop count bytes)
end_later P count bytes (inl none) = inl (ap (drop count) none ∙ drop-nil count)
end_later P count bytes (inr (question, sent, p, is)) =
    inr (question, sent + count, p, ap (drop count) is ∙ drop-drop count sent (spelling question))

says_sending : (P : Frame → Type 0) (t : ExchangeOf) (count : ℕ) → Says P t
    → Says P (sending t count)
says_sending P t count s =
    record { question = s.question; unsent = end_later P count t.unsent s.unsent }

waits_after : (P : Frame → Type 0) (question : Option Frame) (frames : List Frame)
    → Waits P question → Waits P (question_after question frames)
waits_after P question [] w = w
waits_after P question (given ∷ more) w = tt

says_hears : (P : Frame → Type 0) (told : AnswerOutcome) (piece : List ℕ) (t after : ExchangeOf)
    → Hears told piece t after → Says P t → Says P after
says_hears P told piece t after (inl h) s = record {
  question =
      subst (Waits P) (sym h.question_is) (waits_after P t.question h.frames s.question);
  unsent = subst (IsEnd P) (sym h.unsent_is) s.unsent;
}
says_hears P told piece t after (inr h) s = record {
  question = subst (Waits P) (sym h.question_is) s.question;
  unsent = subst (IsEnd P) (sym h.unsent_is) s.unsent;
}

-- ---- answers

-- a question of this property was answered so
abbrev pub IsAnsweredBy : (Frame → Type 0) → FrameBody → Type 0
IsAnsweredBy P answer =
    (question : Frame) × (frame : Frame) × P question × (judged question frame ≡ Ok answer)

said_as : (r : Result FrameBody ClientFault) (answer : FrameBody) → said_of r ≡ heard.Answer answer
    → r ≡ Ok answer
said_as (Ok given) answer h = cc
said_as (Err (fault.Refused refusal)) answer h = absurd cc
said_as (Err _) answer h = absurd cc

answered_by : (P : Frame → Type 0) (answer : FrameBody) (question : Option Frame)
    (frames : List Frame) → Waits P question
    → heard_of question frames ≡ heard.Answer answer → IsAnsweredBy P answer
answered_by P answer question [] w h = absurd cc
answered_by P answer None (given ∷ more) w h = absurd cc
answered_by P answer (Some asked) (given ∷ []) w h =
    (asked, given, w, said_as (judged asked given) answer h)
answered_by P answer (Some asked) (given ∷ next ∷ more) w h = absurd cc

answered_in : (P : Frame → Type 0) (answer : FrameBody) (piece : List ℕ) (t after : ExchangeOf)
    → Hears (heard.Answer answer) piece t after → Waits P t.question → IsAnsweredBy P answer
answered_in P answer piece t after (inl h) w =
    answered_by P answer t.question h.frames w (sym h.heard_is)
answered_in P answer piece t after (inr h) w = absurd (let k = h.heard_is in cc)

-- ---- over a connection

pub asks_over : (P : Frame → Type 0) (now : ℕ) (question : Frame) (old new : KeptConnectionOf)
    → P question → AsksOver true now question old new → SaysOver P new.talking
asks_over P now question old new p (t, is, e) =
    subst (λ z. SaysOver P z.talking) (sym e) (says_asking P t question p)

pub opens_over : (P : Frame → Type 0) (opened : Bool) (old new : KeptConnectionOf)
    → Opens opened old new → SaysOver P new.talking
opens_over P true old new e =
    subst (λ z. SaysOver P z.talking) (sym e) (record { question = tt; unsent = inl refl })
opens_over P false old new e = subst (λ z. SaysOver P z.talking) (sym e) tt

sent_at : (P : Frame → Type 0) (count : ℕ) (talking : Option ExchangeOf) → SaysOver P talking
    → SaysOver P (option_map (λ t. sending t count) talking)
sent_at P count None s = s
sent_at P count (Some t) s = says_sending P t count s

pub sent_over : (P : Frame → Type 0) (count : ℕ) (l : KeptConnectionOf) → SaysOver P l.talking
    → SaysOver P (sent_by l count).talking
sent_over P count l s = sent_at P count l.talking s

after_over : (P : Frame → Type 0) (told : AnswerOutcome) (l : KeptConnectionOf) (t : ExchangeOf)
    → Says P t → SaysOver P (after_heard told l t).talking
after_over P heard.NoAnswer l t s = tt
after_over P _ l t s = s

hears_at : (P : Frame → Type 0) (talking : Option ExchangeOf) (told : AnswerOutcome)
    (piece : List ℕ) (old new : KeptConnectionOf) → SaysOver P talking → SaysOver P old.talking
    → HearsAt talking told piece old new → SaysOver P new.talking
hears_at P None told piece old new s k (is, e) =
    subst (λ z. SaysOver P z.talking) (sym e) k
hears_at P (Some t) told piece old new s k (after, hears, e) =
    subst (λ z. SaysOver P z.talking) (sym e)
    (after_over P told old after (says_hears P told piece t after hears s))

pub hears_over : (P : Frame → Type 0) (told : AnswerOutcome) (piece : List ℕ)
    (old new : KeptConnectionOf)
    → SaysOver P old.talking → HearsOver told piece old new → SaysOver P new.talking
hears_over P told piece old new s h = hears_at P old.talking told piece old new s s h

answered_at : (P : Frame → Type 0) (answer : FrameBody) (talking : Option ExchangeOf)
    (piece : List ℕ) (old new : KeptConnectionOf) → SaysOver P talking
    → HearsAt talking (heard.Answer answer) piece old new → IsAnsweredBy P answer
answered_at P answer None piece old new s (is, e) = absurd cc
answered_at P answer (Some t) piece old new s (after, hears, e) =
    answered_in P answer piece t after hears s.question

-- what was heard as an answer answers a question that was asked
pub answered_over : (P : Frame → Type 0) (answer : FrameBody) (piece : List ℕ)
    (old new : KeptConnectionOf)
    → SaysOver P old.talking → HearsOver (heard.Answer answer) piece old new → IsAnsweredBy P answer
answered_over P answer piece old new s h =
    answered_at P answer old.talking piece old new s h

-- ---- a wider property

waits_wider : (P Q : Frame → Type 0) → ((question : Frame) → P question → Q question)
    → (question : Option Frame) → Waits P question → Waits Q question
waits_wider P Q more None w = tt
waits_wider P Q more (Some question) w = more question w

end_wider : (P Q : Frame → Type 0) → ((question : Frame) → P question → Q question)
    → (bytes : List ℕ) → IsEnd P bytes → IsEnd Q bytes
end_wider P Q more bytes (inl none) = inl none
end_wider P Q more bytes (inr (question, sent, p, is)) =
    inr (question, sent, more question p, is)

pub says_wider : (P Q : Frame → Type 0) → ((question : Frame) → P question → Q question)
    → (talking : Option ExchangeOf) → SaysOver P talking → SaysOver Q talking
says_wider P Q more None s = tt
says_wider P Q more (Some t) s = record {
  question = waits_wider P Q more t.question s.question;
  unsent = end_wider P Q more t.unsent s.unsent;
}
