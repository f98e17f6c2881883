-- A connection to one desk that is kept up (the project's own). Times are milliseconds.
use Rattle.std.specs.Prelude.{ℕ, ◌≡◌, ◌+◌, ◌-◌, List, [], Option, None, Some, Bool, true, false}
use Rattle.std.specs.Prelude.{nat_le, if◌then◌else◌, option_map}
use Rattle.wire.specs.{declared.frame.Frame.Frame, Stream.holding}
use Rattle.desk_talks.specs.Exchanges.{Hears, ExchangeOf, asking, sending, talk}
use Rattle.desk_talks.specs.declared.kept_connection.DueAction.{DueAction}
use Rattle.desk_talks.specs.declared.kept_connection.ConnectionStage.{ConnectionStage}
use Rattle.desk_talks.specs.declared.dialogue.ConnectionPhase.{ConnectionPhase}
use Rattle.desk_talks.specs.declared.exchange.AnswerOutcome.{AnswerOutcome}
use Rattle.desk_talks.specs.declared.kept_connection.DueAction.TheVariants as due
use Rattle.desk_talks.specs.declared.kept_connection.ConnectionStage.TheVariants as stage
use Rattle.desk_talks.specs.declared.dialogue.ConnectionPhase.TheVariants as phase
use Rattle.desk_talks.specs.declared.exchange.AnswerOutcome.TheVariants as heard

-- what the connection has come to, the talk over it, if it is open, and how many questions were
-- asked over it, of which no more than 64 are counted
pub record KeptConnectionOf : Type 0 where
  pub stage : ConnectionStage
  pub talking : Option ExchangeOf
  pub asked : ℕ

abbrev pub line : ConnectionStage → Option ExchangeOf → ℕ → KeptConnectionOf
line stage talking asked = record { stage = stage; talking = talking; asked = asked }

abbrev pub new_line : KeptConnectionOf
new_line = line (stage.Closed None) None 0

-- a desk answers 64 questions over one connection, and then ends it
abbrev pub is_used_up : ℕ → Bool
is_used_up asked = nat_le 64 asked

-- ---- time

-- this many milliseconds have gone since then
abbrev pub is_over : ℕ → ℕ → ℕ → Bool
is_over now since millis = nat_le millis (now - since)

-- what is left of this many milliseconds from then on
abbrev pub left_of : ℕ → ℕ → ℕ → ℕ
left_of now since millis = millis - (now - since)

-- a quarter of a second has gone since then, or there is no such time
abbrev pub is_free : Option ℕ → ℕ → Bool
is_free None now = true
is_free (Some last) now = is_over now last 250

abbrev pub pace_left : Option ℕ → ℕ → ℕ
pace_left None now = 0
pace_left (Some last) now = left_of now last 250

-- ---- what is due

-- once the desk has answered all that it answers over one connection, the next one is to be opened
abbrev pub due_at : ConnectionStage → Bool → ℕ → DueAction
due_at (stage.Closed last) used_up now =
    if is_free last now then due.Open else due.Rest
due_at (stage.Opening since) used_up now =
    if is_over now since 2000 then due.Close else due.Rest
due_at (stage.Opened since) used_up now = due.Ask
due_at (stage.Asked since) used_up now =
    if is_over now since 2000 then due.Close else due.Rest
due_at (stage.Answered last) true now = due.Renew
due_at (stage.Answered last) false now =
    if is_free last now then due.Ask else due.Rest

abbrev pub due_of : KeptConnectionOf → ℕ → DueAction
due_of l now = due_at l.stage (is_used_up l.asked) now

abbrev pub wait_at : ConnectionStage → Bool → ℕ → ℕ
wait_at (stage.Closed last) used_up now = pace_left last now
wait_at (stage.Opening since) used_up now = left_of now since 2000
wait_at (stage.Opened since) used_up now = 0
wait_at (stage.Asked since) used_up now = left_of now since 2000
wait_at (stage.Answered last) true now = 0
wait_at (stage.Answered last) false now = pace_left last now

-- how long it is until something is due, if nothing comes
abbrev pub wait_of : KeptConnectionOf → ℕ → ℕ
wait_of l now = wait_at l.stage (is_used_up l.asked) now

abbrev pub phase_of : ConnectionStage → ConnectionPhase
phase_of (stage.Closed last) = phase.Closed
phase_of (stage.Opening since) = phase.Opening
phase_of _ = phase.Open

abbrev pub is_closed : ConnectionStage → Bool
is_closed (stage.Closed last) = true
is_closed _ = false

-- ---- what becomes of the connection

-- the time of the last question, or of the last opening where nothing was asked after it; none
-- where the next may come at once
abbrev pub last_of : ConnectionStage → Option ℕ
last_of (stage.Closed last) = last
last_of (stage.Opening since) = Some since
last_of (stage.Opened since) = Some since
last_of (stage.Asked since) = Some since
last_of (stage.Answered last) = last

abbrev pub closed : KeptConnectionOf → KeptConnectionOf
closed l = line (stage.Closed (last_of l.stage)) None 0

abbrev pub opening : KeptConnectionOf → ℕ → KeptConnectionOf
opening l now = line (stage.Opening now) None 0

abbrev pub opened_stage : ConnectionStage → ConnectionStage
opened_stage (stage.Closed last) = stage.Closed last
opened_stage (stage.Opening since) = stage.Opened since
opened_stage (stage.Opened since) = stage.Opened since
opened_stage (stage.Asked since) = stage.Asked since
opened_stage (stage.Answered last) = stage.Answered last

-- the connection is open and nothing was said over it; where memory is refused, it is closed
abbrev pub Opens : Bool → KeptConnectionOf → KeptConnectionOf → Type 0
Opens true old new =
    new ≡ line (opened_stage old.stage) (Some (talk (holding []) None [])) 0
Opens false old new = new ≡ closed old

-- ---- what is said over it

abbrev pub asked_once_more : ℕ → ℕ
asked_once_more asked = if nat_le 64 asked then asked else asked + 1

-- the question is asked; where there is no connection, or memory is refused, it is closed
abbrev pub AsksOver : Bool → ℕ → Frame → KeptConnectionOf → KeptConnectionOf → Type 0
AsksOver true now question old new =
    (t : ExchangeOf) × (old.talking ≡ Some t)
    × (new ≡ line (stage.Asked now) (Some (asking t question)) (asked_once_more old.asked))
AsksOver false now question old new = new ≡ closed old

abbrev pub hurried_stage : ConnectionStage → ConnectionStage
hurried_stage (stage.Closed last) = stage.Closed last
hurried_stage (stage.Opening since) = stage.Opening since
hurried_stage (stage.Opened since) = stage.Opened since
hurried_stage (stage.Asked since) = stage.Asked since
hurried_stage (stage.Answered last) = stage.Answered None

abbrev pub hurried : KeptConnectionOf → KeptConnectionOf
hurried l = line (hurried_stage l.stage) l.talking l.asked

-- where there is no connection, the next one may be opened at once
abbrev pub open_at_once : ConnectionStage → ConnectionStage
open_at_once (stage.Closed last) = stage.Closed None
open_at_once other = other

abbrev pub to_open_at_once : KeptConnectionOf → KeptConnectionOf
to_open_at_once l = line (open_at_once l.stage) l.talking l.asked

-- what is to be written
abbrev pub unsent_by : Option ExchangeOf → List ℕ
unsent_by None = []
unsent_by (Some t) = t.unsent

abbrev pub sent_by : KeptConnectionOf → ℕ → KeptConnectionOf
sent_by l count = line l.stage (option_map (λ t. sending t count) l.talking) l.asked

abbrev pub answered_stage : ConnectionStage → ConnectionStage
answered_stage (stage.Closed last) = stage.Closed last
answered_stage (stage.Opening since) = stage.Opening since
answered_stage (stage.Opened since) = stage.Opened since
answered_stage (stage.Asked since) = stage.Answered (Some since)
answered_stage (stage.Answered last) = stage.Answered last

-- what the bytes come to closes the connection, or it goes on
abbrev pub after_heard : AnswerOutcome → KeptConnectionOf → ExchangeOf → KeptConnectionOf
after_heard heard.Waits l t = line l.stage (Some t) l.asked
after_heard (heard.Answer what) l t = line (answered_stage l.stage) (Some t) l.asked
after_heard (heard.Refused refusal) l t = line (answered_stage l.stage) (Some t) l.asked
after_heard heard.NoAnswer l t = closed l

-- without a connection nothing comes
abbrev pub HearsAt : Option ExchangeOf → AnswerOutcome → List ℕ → KeptConnectionOf
    → KeptConnectionOf → Type 0
HearsAt None told piece old new = (told ≡ heard.Waits) × (new ≡ old)
HearsAt (Some t) told piece old new =
    (after : ExchangeOf) × Hears told piece t after × (new ≡ after_heard told old after)

abbrev pub HearsOver : AnswerOutcome → List ℕ → KeptConnectionOf → KeptConnectionOf → Type 0
HearsOver told piece old new = HearsAt old.talking told piece old new
