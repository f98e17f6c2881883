-- What is said over one connection to a desk (the project's own).
use Rattle.std.specs.Prelude.{ℕ, ◌≡◌, ◌⊎◌, List, [], ◌∷◌, drop, Option, None, Some, Result, Ok, Err}
use Rattle.client.specs.{Answers.judged, declared.fault.ClientFault.ClientFault}
use Rattle.wire.specs.{declared.fault.WireFault.WireFault, Spelling.spelling}
use Rattle.wire.specs.declared.frame.{Frame.Frame, FrameBody.FrameBody}
use Rattle.wire.specs.Stream.{Fed, Reader, Refuses}
use Rattle.desk_talks.specs.declared.exchange.AnswerOutcome.{AnswerOutcome}
use Rattle.client.specs.declared.fault.ClientFault.TheVariants as fault
use Rattle.desk_talks.specs.declared.exchange.AnswerOutcome.TheVariants as heard

-- the reader of what the desk sends, the question that waits for its answer, and what is still to
-- be written of it
pub record ExchangeOf : Type 0 where
  pub reader : Reader
  pub question : Option Frame
  pub unsent : List ℕ

abbrev pub talk : Reader → Option Frame → List ℕ → ExchangeOf
talk reader question unsent = record { reader = reader; question = question; unsent = unsent }

-- this question waits now, and its bytes are to be written
abbrev pub asking : ExchangeOf → Frame → ExchangeOf
asking t question = talk t.reader (Some question) (spelling question)

-- this many bytes more were written
abbrev pub sending : ExchangeOf → ℕ → ExchangeOf
sending t count = talk t.reader t.question (drop count t.unsent)

-- what the client makes of a frame: the answer, a refusal, or no answer
abbrev pub said_of : Result FrameBody ClientFault → AnswerOutcome
said_of (Ok what) = heard.Answer what
said_of (Err (fault.Refused refusal)) = heard.Refused refusal
said_of (Err _) = heard.NoAnswer

-- what the frames come to that are whole now, where this question waits: one that answers it
abbrev pub heard_of : Option Frame → List Frame → AnswerOutcome
heard_of question [] = heard.Waits
heard_of None (given ∷ more) = heard.NoAnswer
heard_of (Some asked) (given ∷ []) = said_of (judged asked given)
heard_of (Some asked) (given ∷ next ∷ more) = heard.NoAnswer

-- no question waits after a frame
abbrev pub question_after : Option Frame → List Frame → Option Frame
question_after question [] = question
question_after question (given ∷ more) = None

-- the frames of the stream that the piece makes whole
pub record HearsFrames (told : AnswerOutcome) (piece : List ℕ) (old new : ExchangeOf) : Type 0 where
  pub frames : List Frame
  pub fed : Fed piece old.reader new.reader frames
  pub heard_is : told ≡ heard_of old.question frames
  pub question_is : new.question ≡ question_after old.question frames
  pub unsent_is : new.unsent ≡ old.unsent

-- the stream is no stream of frames, or memory was refused
pub record HearsNoFrame (told : AnswerOutcome) (piece : List ℕ)
    (old new : ExchangeOf) : Type 0 where
  pub fault : WireFault
  pub refuses : Refuses fault piece old.reader new.reader
  pub heard_is : told ≡ heard.NoAnswer
  pub question_is : new.question ≡ old.question
  pub unsent_is : new.unsent ≡ old.unsent

abbrev pub Hears : AnswerOutcome → List ℕ → ExchangeOf → ExchangeOf → Type 0
Hears told piece old new = HearsFrames told piece old new ⊎ HearsNoFrame told piece old new
