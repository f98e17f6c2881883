-- Requests to a desk, and what came of each (the project's own).
use Rattle.std.specs.Prelude.{◌≡◌, ◌⊎◌, ◌+◌, ◌/◌, ◌++◌, ◌∷◌, [], ℕ, List, Result, Ok, Err, IsOk}
use Rattle.std.specs.Prelude.{IsOkAnd, Bool, true, false, if◌then◌else◌}
use Rattle.client.specs.{Answers.judged, declared.fault.ClientFault.TheVariants.Refused}
use Rattle.client.specs.Standings.{await_request, log_request}
use Rattle.wire.specs.Ranges.{IsFrame}
use Rattle.wire.specs.declared.frame.{Frame.Frame, FrameBody.FrameBody}
use Rattle.wire.specs.declared.values.{ClientRefusal.TheVariants.Busy, Version.Version}
use Rattle.wire.specs.declared.values.CommandState.TheVariants.{Done, Unknown}
use Rattle.wire.specs.declared.values.Version.TheVariants.{One, Four, Five}
use Rattle.batch.specs.{Watching.Notice, Watching.waits_of, declared.asking.Receiver.Receiver}
use Rattle.batch.specs.declared.fault.BatchFault.{BatchFault, TheVariants.Lost}
use Rattle.batch.specs.declared.fault.BatchFault.TheVariants.{Asking, CannotConnect, Late, NoMemory}
use Rattle.batch.specs.declared.fault.BatchFault.TheVariants.{NoKey, OtherKey, HasKey, StillPending}
use Rattle.wire.specs.declared.frame.FrameBody.TheVariants as what
pub use Rattle.batch.specs.Dialing.{Adds, Asked, Asks, Goes, Told, asked_so, told}

-- what became of a command is asked in version 4, which tells each code; one is entered in version
-- 5 where the desk knows it, which tells each refusal; the others are of version 1
abbrev pub version_for : Receiver → FrameBody → Version
version_for r (what.Ask id) = Four
version_for r (what.Submit entry) = if r.awaits then Five else One
version_for r _ = One

-- a request goes from a client, which is 0, to the desk
abbrev pub request_to : Receiver → FrameBody → Frame
request_to r asked =
    record { version = version_for r asked; hall = r.hall; from = 0; to = r.desk; what = asked }

-- the request that enters a text with an id
abbrev pub submit_of : Receiver → ℕ → List ℕ → Frame
submit_of r id text = request_to r (what.Submit (record { id = id; text = text }))

-- the request that asks what became of an id: once that is known, or after a second, where the desk
-- knows such a request
abbrev pub ask_of : Receiver → ℕ → Frame
ask_of r id =
    if r.awaits then await_request r.hall r.desk id 1 else request_to r (what.Ask id)

-- the request that gives the desk a tick
abbrev pub tick_of : Receiver → Frame
tick_of r = request_to r what.Tick

-- the request for what is in the desk's log from a position on
abbrev pub log_of : Receiver → ℕ → Frame
log_of r position = log_request r.hall r.desk position

-- a frame came that is the answer to the request
abbrev pub IsAnswer : Frame → FrameBody → Type 0
IsAnswer asked answer = (given : Frame) × IsFrame given × (judged asked given ≡ Ok answer)

-- it says that the command is in the log
abbrev pub IsDecided : FrameBody → Type 0
IsDecided answer = (id pos : ℕ) × (said : _) × (answer ≡ what.Told id (Done pos said))

-- it says that the desk knows nothing of the command
abbrev pub IsUnknown : FrameBody → Type 0
IsUnknown answer = (id : ℕ) × (answer ≡ what.Told id Unknown)

-- the faults of a request over a connection: nobody is reached, there is no answer, or none in
-- time, or the desk does not speak under this key, or refuses, or there is no memory
abbrev pub IsOfAsking : BatchFault → Type 0
IsOfAsking CannotConnect = Unit {0}
IsOfAsking (Asking f) = Unit {0}
IsOfAsking Late = Unit {0}
IsOfAsking NoKey = Unit {0}
IsOfAsking OtherKey = Unit {0}
IsOfAsking HasKey = Unit {0}
IsOfAsking NoMemory = Unit {0}
IsOfAsking _ = ⊥

-- it says neither
abbrev pub IsPending : FrameBody → Type 0
IsPending answer = (¬ IsDecided answer) × (¬ IsUnknown answer)

-- the desk was ticked, and answered that
abbrev pub IsTicked : Receiver → Asked → Type 0
IsTicked r a = (a.request ≡ tick_of r) × IsOk a.answer

-- the request was made, and the desk's queue was full
abbrev pub IsFull : Frame → Asked → Type 0
IsFull submit a = (a.request ≡ submit) × (a.answer ≡ Err (Asking (Refused Busy)))

-- the desk was asked, and answered neither that the command is decided nor that it knows nothing
-- of it
abbrev pub IsWaiting : Frame → Asked → Type 0
IsWaiting ask a =
    (a.request ≡ ask) × IsOkAnd a.answer (λ told. IsAnswer ask told × IsPending told)

-- ---- requests that are made again and again

-- of this many of the requests the one is said, and of this many, all that are left, the other
abbrev pub Counts : (Asked → Type 0) → (Asked → Type 0) → ℕ → ℕ → List Asked → Type 0
Counts Is IsElse m n [] = (m ≡ 0) × (n ≡ 0)
Counts Is IsElse m n (a ∷ asked) =
    (Is a × (k : ℕ) × (m ≡ k + 1) × Counts Is IsElse k n asked)
    ⊎ (IsElse a × (k : ℕ) × (n ≡ k + 1) × Counts Is IsElse m k asked)

-- how often the desk is ticked in this many tries: after each one where it waits with its answers,
-- and else after every 32nd
abbrev pub ticks_in : Bool → ℕ → ℕ
ticks_in true tries = tries
ticks_in false tries = tries / 32

-- how often it is asked at most what became of a command
abbrev pub most_asked : Bool → ℕ
most_asked true = 300
most_asked false = 10000

-- these are so many tries, of each of which this is said, and the ticks among them and after them
abbrev pub AreTries : (Asked → Type 0) → Receiver → Bool → ℕ → List Asked → Type 0
AreTries Is r waits tries asked = Counts Is (IsTicked r) tries (ticks_in waits tries) asked

-- after this many tries, each of which the observer hears of, the request was made once more, and
-- this came of it
pub record EndsTries (Is : Asked → Type 0) (r : Receiver) (waits : Bool) (request : Frame)
    (answer : Result FrameBody BatchFault) (tries : ℕ) (asked : List Asked)
    (told : List Notice) : Type 0 where
  pub front : List Asked
  pub each : AreTries Is r waits tries front
  pub parts : asked ≡ front ++ asked_so request answer ∷ []
  pub heard : told ≡ waits_of tries

-- so it was after some tries
abbrev pub Tries : (Asked → Type 0) → Receiver → Bool → Frame → Result FrameBody BatchFault
    → List Asked → List Notice → Type 0
Tries Is r waits request answer asked told =
    (tries : ℕ) × EndsTries Is r waits request answer tries asked told

-- after some tries, each of which the observer hears of, a tick failed by this fault
pub record TickFails (Is : Asked → Type 0) (r : Receiver) (waits : Bool) (f : BatchFault)
    (asked : List Asked) (told : List Notice) : Type 0 where
  pub tries : ℕ
  pub front : List Asked
  pub last : Asked
  pub each : AreTries Is r waits tries front
  pub is : Is last
  pub parts : asked ≡ (front ++ last ∷ []) ++ asked_so (tick_of r) (Err f) ∷ []
  pub heard : told ≡ waits_of (tries + 1)

-- the request that enters a text was made until the queue had room, and was answered so
abbrev pub IsTakenOf : Receiver → Frame → FrameBody → List Asked → List Notice → Type 0
IsTakenOf r submit answer = Tries (IsFull submit) r false submit (Ok answer)

-- the text was entered with the id as soon as the queue had room
abbrev pub IsTaken : Receiver → ℕ → List ℕ → FrameBody → List Asked → List Notice → Type 0
IsTaken r id text = IsTakenOf r (submit_of r id text)

-- it failed by this fault, after 10,000 tries where the queue was full still; or a tick failed
abbrev pub IsTurnedOff : BatchFault → Receiver → Frame → List Asked → List Notice → Type 0
IsTurnedOff f r submit asked told =
    ((tries : ℕ) × EndsTries (IsFull submit) r false submit (Err f) tries asked told
    × (f ≡ Asking (Refused Busy) → tries ≡ 10000)) ⊎ TickFails (IsFull submit) r false f asked told

-- it was asked for the id until this was answered
abbrev pub IsAskedFor : Receiver → ℕ → Result FrameBody BatchFault → List Asked → List Notice
    → Type 0
IsAskedFor r id = Tries (IsWaiting (ask_of r id)) r r.awaits (ask_of r id)

-- it was asked for the id until that was decided
abbrev pub IsAwaited : Receiver → ℕ → FrameBody → List Asked → List Notice → Type 0
IsAwaited r id last asked told = IsAskedFor r id (Ok last) asked told × IsDecided last

-- Asking for the id ended otherwise: a question failed, or a tick; or it was asked as often as it
-- is at most; or the desk answered that it knows nothing of the id.
abbrev pub EndsWaiting : BatchFault → Receiver → ℕ → List Asked → List Notice → Type 0
EndsWaiting f r id asked told =
    IsAskedFor r id (Err f) asked told
    ⊎ (TickFails (IsWaiting (ask_of r id)) r r.awaits f asked told
    ⊎ (((f ≡ StillPending) × AreTries (IsWaiting (ask_of r id)) r r.awaits
    (most_asked r.awaits) asked × (told ≡ waits_of (most_asked r.awaits)))
    ⊎ ((f ≡ Lost) × (last : FrameBody) × IsUnknown last × IsAskedFor r id (Ok last) asked told)))
