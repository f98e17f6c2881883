-- What becomes of connections to desks, where that is known, and how requests are made over them
-- (the project's own).
use Rattle.std.specs.Prelude.{◌≡◌, ◌⊎◌, ◌++◌, ◌+◌, ◌<◌, ◌≤◌, ◌∷◌, [], ℕ, Bool, true, false}
use Rattle.std.specs.Prelude.{if◌then◌else◌, List, Option, None, Some, Result, Ok, Err, ⊤}
use Rattle.client.specs.{Answers.judged, declared.fault.ClientFault.ClientFault}
use Rattle.wire.specs.declared.frame.{Frame.Frame, FrameBody.FrameBody}
use Rattle.batch.specs.declared.dialing.{Contact.Contact, ConnectionLoss.ConnectionLoss}
use Rattle.batch.specs.declared.dialing.ConnectionLoss.TheVariants.{Late, Gone, NoKey, OtherKey}
use Rattle.batch.specs.declared.dialing.ConnectionLoss.TheVariants.{HasKey, Own}
use Rattle.batch.specs.declared.fault.BatchFault.{BatchFault}
use Rattle.client.specs.declared.fault.ClientFault.TheVariants as client
use Rattle.batch.specs.declared.fault.BatchFault.TheVariants as fault

-- the address at which a desk is asked, for how many seconds it is waited, and under which key
pub record Place : Type 0 where
  pub to : List ℕ
  pub patience : ℕ
  pub key : Option (List ℕ)

abbrev pub place_of : Contact → Place
place_of c = record { to = c.address.now; patience = c.patience; key = c.key }

-- A connection was opened to this place. None could be opened to it. Over the one that was opened
-- last a request was made, and this frame came first, or none did. It was ended, and this is known
-- of its end.
pub data Dialed : Type 0 where
  Opened : Place → Dialed
  Failed : Place → Dialed
  Came : (request : Frame) → Result Frame ClientFault → Dialed
  Ended : ConnectionLoss → Dialed

-- what is told grows by these, in order, where it is known; who tells may stop, and never begins
abbrev pub Grows : {A : Type 0} → Option (List A) → Option (List A) → List A → Type 0
Grows None None more = ⊤
Grows (Some xs) None more = ⊤
Grows None (Some ys) more = ⊥
Grows (Some xs) (Some ys) more = ys ≡ xs ++ more

-- so does what became of connections
abbrev pub Dials : Option (List Dialed) → Option (List Dialed) → List Dialed → Type 0
Dials old new more = Grows old new more

-- a request, and what came of it
pub record Asked : Type 0 where
  pub request : Frame
  pub answer : Result FrameBody BatchFault

abbrev pub asked_so : Frame → Result FrameBody BatchFault → Asked
asked_so request answer = record { request = request; answer = answer }

-- why a request that was not answered, or not written, failed, by the end of its connection; it is
-- late where no answer came as long as the desk was waited for
abbrev pub fault_at : ClientFault → ConnectionLoss → BatchFault
fault_at e Late = fault.Late
fault_at e NoKey = fault.NoKey
fault_at e OtherKey = fault.OtherKey
fault_at e HasKey = fault.HasKey
fault_at e Gone = fault.Asking e
fault_at e Own = fault.Asking e

-- why a request has no answer
abbrev pub fault_of : ClientFault → ConnectionLoss → BatchFault
fault_of client.NoAnswer ending = fault_at client.NoAnswer ending
fault_of client.Write ending = fault_at client.Write ending
fault_of (client.Refused refusal) ending = fault.Asking (client.Refused refusal)
fault_of client.NoMemory ending = fault.NoMemory

abbrev pub answer_of : Result FrameBody ClientFault → ConnectionLoss → Result FrameBody BatchFault
answer_of (Ok answer) ending = Ok answer
answer_of (Err e) ending = Err (fault_of e ending)

-- ---- one request

-- what is made of the first frame that came after a request, or of none
abbrev pub heard_as : Frame → Result Frame ClientFault → Result FrameBody ClientFault
heard_as request (Ok given) = judged request given
heard_as request (Err e) = Err e

-- the desk answered, or refused
abbrev pub is_answered : Result FrameBody ClientFault → Bool
is_answered (Ok answer) = true
is_answered (Err (client.Refused refusal)) = true
is_answered (Err _) = false

-- the desk ended the connection and did not answer: the request could not be written to it, or no
-- answer came and the end was met
abbrev pub is_hung_up : Result FrameBody ClientFault → ConnectionLoss → Bool
is_hung_up (Err client.Write) ending = true
is_hung_up (Err client.NoAnswer) Gone = true
is_hung_up _ ending = false

-- how many requests were made over the connection that is kept after one more; none is kept where
-- the desk did not answer
abbrev pub made_after : Result FrameBody ClientFault → ℕ → ℕ
made_after ended made = if is_answered ended then made + 1 else 0

-- so the connection was ended, unless the desk answered
abbrev pub ended_so : Result FrameBody ClientFault → ConnectionLoss → List Dialed
ended_so ended ending = if is_answered ended then [] else Ended ending ∷ []

-- a request was made over a connection, this came of it, and this is known of the connection's end
abbrev pub exchanged : Frame → Result Frame ClientFault → ConnectionLoss → List Dialed
exchanged request came ending =
    Came request came ∷ ended_so (heard_as request came) ending

-- the request was made over a connection over which this many were made before
pub record IsExchanged (made : ℕ) (a : Asked) (came : Result Frame ClientFault)
    (ending : ConnectionLoss) (after : ℕ) (dialed : List Dialed) : Type 0 where
  pub answer : a.answer ≡ answer_of (heard_as a.request came) ending
  pub kept : after ≡ made_after (heard_as a.request came) made
  pub told : dialed ≡ exchanged a.request came ending

-- no connection could be opened to the place, and nothing was asked
abbrev pub IsUnreached : Place → Asked → ℕ → List Dialed → Type 0
IsUnreached p a after dialed =
    ((a.answer ≡ Err fault.CannotConnect) ⊎ (a.answer ≡ Err fault.NoMemory))
    × (after ≡ 0) × (dialed ≡ Failed p ∷ [])

-- the request was made over a new connection to the place, or none could be opened
abbrev pub IsAnew : Place → Asked → ℕ → List Dialed → Type 0
IsAnew p a after dialed =
    IsUnreached p a after dialed
    ⊎ ((came : Result Frame ClientFault) × (ending : ConnectionLoss) × (rest : List Dialed)
    × IsExchanged 0 a came ending after rest × (dialed ≡ Opened p ∷ rest))

-- it was made over the connection that is kept, over which fewer than 64 were made
pub record IsOverKept (made : ℕ) (a : Asked) (after : ℕ) (dialed : List Dialed) : Type 0 where
  pub some : 0 < made
  pub few : made < 64
  pub came : Result Frame ClientFault
  pub ending : ConnectionLoss
  pub over : IsExchanged made a came ending after dialed
  pub stands : is_hung_up (heard_as a.request came) ending ≡ false

-- it was made so, the connection was cut off at it, and it was made once more, over a new one
pub record IsRepeated (p : Place) (made : ℕ) (a : Asked) (after : ℕ)
    (dialed : List Dialed) : Type 0 where
  pub some : 0 < made
  pub few : made < 64
  pub came : Result Frame ClientFault
  pub ending : ConnectionLoss
  pub cut : is_hung_up (heard_as a.request came) ending ≡ true
  pub rest : List Dialed
  pub again : IsAnew p a after rest
  pub parts : dialed ≡ exchanged a.request came ending ++ rest

-- 64 requests were made over the connection that was kept; it was ended, and the request was made
-- over a new one
pub record IsRenewed (p : Place) (made : ℕ) (a : Asked) (after : ℕ)
    (dialed : List Dialed) : Type 0 where
  pub full : 64 ≤ made
  pub ending : ConnectionLoss
  pub rest : List Dialed
  pub anew : IsAnew p a after rest
  pub parts : dialed ≡ Ended ending ∷ rest

-- The request was made once: over the connection that is kept, over which this many were made, or
-- over a new one where none is kept, which is 0, or that one is used up. Only where a kept
-- connection was cut off at it, it was made once more.
abbrev pub IsMade : Place → ℕ → Asked → ℕ → List Dialed → Type 0
IsMade p made a after dialed =
    ((made ≡ 0) × IsAnew p a after dialed) ⊎ (IsOverKept made a after dialed
    ⊎ (IsRepeated p made a after dialed ⊎ IsRenewed p made a after dialed))

-- ---- requests one after the other

-- These requests were made, one after the other, over connections to the place, of which one is
-- kept before them, or none, and one afterwards, or none. Nothing else was done with connections.
abbrev pub AreMade : Place → List Asked → (before after : ℕ) → List Dialed → Type 0
AreMade p [] before after dialed = (before ≡ after) × (dialed ≡ [])
AreMade p (a ∷ asked) before after dialed =
    (done : ℕ) × (one rest : List Dialed) × IsMade p before a done one
    × AreMade p asked done after rest × (dialed ≡ one ++ rest)

-- what became of connections, where that is known, and how many requests were made over the one
-- that is kept: 0 where none is
pub record Standing : Type 0 where
  pub dialed : Option (List Dialed)
  pub made : ℕ

-- it changes by these requests, and by nothing else
pub record Goes (p : Place) (old new : Standing) (asked : List Asked) : Type 0 where
  pub dialed : List Dialed
  pub told : Dials old.dialed new.dialed dialed
  pub each : AreMade p asked old.made new.made dialed

-- it changes by requests of which this is said
abbrev pub Asks : Place → Standing → Standing → (List Asked → Type 0) → Type 0
Asks p old new Is = (more : List Asked) × Goes p old new more × Is more

-- no connection is kept
abbrev pub closed : Option (List Dialed) → Standing
closed dialed = record { dialed = dialed; made = 0 }

-- the connection that was kept was ended, where there was one
abbrev pub LetsGo : Standing → Option (List Dialed) → Type 0
LetsGo old new =
    ((old.made ≡ 0) × (old.dialed ≡ new))
    ⊎ ((0 < old.made) × (ending : ConnectionLoss) × Dials old.dialed new (Ended ending ∷ []))

-- What became of connections grows by these requests, and by nothing else. The first of them was
-- made over a new connection, and the one that was kept after the last of them was ended.
pub record Adds (p : Place) (old new : Option (List Dialed)) (asked : List Asked) : Type 0 where
  pub last : Standing
  pub goes : Goes p (closed old) last asked
  pub ends : LetsGo last new

-- the place of requests, and how connections to it are before a call and afterwards
pub record Way : Type 0 where
  pub place : Place
  pub old : Standing
  pub new : Standing

abbrev pub GoesBy : Way → List Asked → Type 0
GoesBy w asked = Goes w.place w.old w.new asked

abbrev pub AsksBy : Way → (List Asked → Type 0) → Type 0
AsksBy w Is = Asks w.place w.old w.new Is

-- what became of connections to the place before a call and afterwards, where that is known
pub record Told : Type 0 where
  pub place : Place
  pub old : Option (List Dialed)
  pub new : Option (List Dialed)

-- by what is told: of this contact, before and after
abbrev pub told : {A : Type 0} → Contact → (A → Option (List Dialed)) → (before after : A) → Told
told c dialed before after = record {
  place = place_of c;
  old = dialed before;
  new = dialed after;
}
