-- What comes of the connection of a dialogue, where it is known, and what a dialogue makes of it
-- (the project's own).
use Rattle.std.specs.Prelude.{◌≡◌, ℕ, ◌-◌, List, [], ◌∷◌, ◌++◌, take, Bool, true, false, Option}
use Rattle.std.specs.Prelude.{None, Some, slice_get}
use Rattle.std.specs.declared.net.SocketAddr.{SocketAddr}
use Rattle.polled.specs.{Telling.Tells, declared.answers.WriteOutcome.WriteOutcome}
use Rattle.desk_talks.specs.Dialogues.{Act, Call, Hear, Lost, Opened, Sent}
use Rattle.desk_talks.specs.declared.dialogue.ConnectionPhase.{ConnectionPhase}
use Rattle.desk_talks.specs.declared.dialogue.DialogueAction.{DialogueAction}
use Rattle.desk_talks.specs.declared.dialogue.ReceiveOutcome.{ReceiveOutcome}
use Rattle.desk_sockets.specs.declared.desk_connection.ConnectionOutcome.{ConnectionOutcome}
use Rattle.desk_sockets.specs.declared.desk_connection.Opening.{Opening}
use Rattle.polled.specs.declared.answers.WriteOutcome.TheVariants as taken_is
use Rattle.desk_talks.specs.declared.dialogue.ConnectionPhase.TheVariants as phase
use Rattle.desk_talks.specs.declared.dialogue.DialogueAction.TheVariants as wish
use Rattle.desk_talks.specs.declared.dialogue.ReceiveOutcome.TheVariants as came
use Rattle.desk_sockets.specs.declared.desk_connection.ConnectionOutcome.TheVariants as heard_is
use Rattle.desk_sockets.specs.declared.desk_connection.Opening.TheVariants as opening_is

-- A connection was begun at this address. It was asked what became of it while it was being opened;
-- or what came over the open one. It took these bytes. It was closed.
pub data Wired : Type 0 where
  Began : SocketAddr → Wired
  Looked : Opening → Wired
  Listened : ConnectionOutcome → Wired
  Took : List ℕ → Wired
  Closed : Wired

-- the bytes that were taken are first among those that were given
abbrev pub taken : WriteOutcome → List ℕ → List Wired
taken (taken_is.Bytes count) bytes = Took (take count bytes) ∷ []
taken taken_is.Later bytes = []
taken taken_is.Broke bytes = []

-- a connection that is being opened, or is open, is looked at, and no other
abbrev pub LooksIn : ConnectionPhase → List Wired → Type 0
LooksIn phase.Closed looks = looks ≡ []
LooksIn phase.Opening looks = (o : Opening) × (looks ≡ Looked o ∷ [])
LooksIn phase.Open looks = (h : ConnectionOutcome) × (looks ≡ Listened h ∷ [])

-- ---- what is told of a dialogue's connection

abbrev pub found : Option (Option SocketAddr) → Option SocketAddr
found None = None
found (Some address) = address

-- the address of a desk, where it is known: of desk 1 the first one, and so on
abbrev pub address_of : List (Option SocketAddr) → (desk : ℕ) → Option SocketAddr
address_of addresses desk = found (slice_get addresses (desk - 1))

abbrev pub begun : Option SocketAddr → List Wired
begun None = []
begun (Some address) = Began address ∷ []

-- a connection that there is, or that is being opened, is closed before another one is begun
abbrev pub closed_in : ConnectionPhase → List Wired
closed_in phase.Closed = []
closed_in phase.Opening = Closed ∷ []
closed_in phase.Open = Closed ∷ []

abbrev pub took : List ℕ → List Wired
took [] = []
took (b ∷ bs) = Took (b ∷ bs) ∷ []

abbrev pub told_of_wish : DialogueAction → List (Option SocketAddr) → ConnectionPhase → List Wired
told_of_wish wish.Rest addresses p = []
told_of_wish (wish.Open desk) addresses p = closed_in p ++ begun (address_of addresses desk)
told_of_wish wish.Write addresses p = []
told_of_wish wish.Close addresses p = Closed ∷ []
told_of_wish wish.Stop addresses p = Closed ∷ []

abbrev pub told_of_heard : ReceiveOutcome → List Wired
told_of_heard came.Nothing = []
told_of_heard (came.Answer changed) = []
told_of_heard came.NoAnswer = Closed ∷ []

-- What is told of the connection where the dialogue is called so: one is begun at the address of
-- the desk that is wished for; it takes the bytes that are said to be sent; and it is closed as the
-- dialogue wishes, and once the dialogue is told that it is lost or ended.
abbrev pub told_of : Call → List (Option SocketAddr) → ConnectionPhase → (output : List ℕ)
    → List Wired
told_of (Act w now) addresses p output = told_of_wish w addresses p
told_of (Opened true) addresses p output = []
told_of (Opened false) addresses p output = Closed ∷ []
told_of (Lost ended) addresses p output = Closed ∷ []
told_of (Sent count) addresses p output = took (take count output)
told_of (Hear c now piece) addresses p output = told_of_heard c

-- calls of the dialogue, one after the other, and what is told of its connection with them
abbrev pub CallsTell : {S : Type 0} → (Call → S → S → Type 0) → (S → ConnectionPhase)
    → (S → List ℕ) → List (Option SocketAddr) → S → List Call → S → List Wired → Type 0
CallsTell Leads phase output addresses old [] new told = (new ≡ old) × (told ≡ [])
CallsTell {S} Leads phase output addresses old (call ∷ more) new told =
    (next : S) × (rest : List Wired) × Leads call old next × CallsTell Leads phase output addresses
    next more new rest × (told ≡ told_of call addresses (phase old) (output old) ++ rest)

-- the dialogue was called, and what is told of its connection is what was looked at first, and then
-- what these calls say
pub record Drives {S : Type 0} (Leads : Call → S → S → Type 0) (phase : S → ConnectionPhase)
    (output : S → List ℕ) (addresses : List (Option SocketAddr)) (old new : S)
    (looks : List Wired) (before after : Option (List Wired)) : Type 0 where
  pub calls : List Call
  pub events : List Wired
  pub lead : CallsTell Leads phase output addresses old calls new events
  pub told : Tells before after (looks ++ events)

-- ---- what a dialogue makes of a look

-- the connection is open, and the dialogue closes it at once where it has no memory for it
abbrev pub MakesOfOpening : {S : Type 0} → (Call → S → S → Type 0) → Opening → S → S → Type 0
MakesOfOpening Leads opening_is.Later old new = new ≡ old
MakesOfOpening Leads opening_is.Open old new = (opened : Bool) × Leads (Opened opened) old new
MakesOfOpening Leads opening_is.Failed old new = Leads (Lost false) old new

abbrev pub MakesOfEnd : {S : Type 0} → (Call → S → S → Type 0) → ConnectionOutcome → S → S → Type 0
MakesOfEnd Leads heard_is.Nothing old new = new ≡ old
MakesOfEnd Leads heard_is.Ended old new = Leads (Lost true) old new
MakesOfEnd Leads heard_is.Broke old new = Leads (Lost false) old new

-- nothing more where the dialogue made no answer of the bytes: the connection is closed
abbrev pub MakesOfHeard : {S : Type 0} → (Call → S → S → Type 0) → ReceiveOutcome
    → ConnectionOutcome → S → S → Type 0
MakesOfHeard Leads came.NoAnswer h old new = new ≡ old
MakesOfHeard Leads came.Nothing h old new = MakesOfEnd Leads h old new
MakesOfHeard Leads (came.Answer changed) h old new = MakesOfEnd Leads h old new

-- the dialogue hears the bytes that came, if some came, and then what became of the connection,
-- unless it made no answer of the bytes
abbrev pub Hears : {S : Type 0} → (Call → S → S → Type 0) → ConnectionOutcome → (now : ℕ)
    → (handed : List ℕ) → S → S → Type 0
Hears Leads h now [] old new = MakesOfEnd Leads h old new
Hears {S} Leads h now (b ∷ bs) old new =
    (c : ReceiveOutcome) × (mid : S) × Leads (Hear c now (b ∷ bs)) old mid
    × MakesOfHeard Leads c h mid new

abbrev pub LooksAs : {S : Type 0} → (Call → S → S → Type 0) → ConnectionPhase → (now : ℕ) → S → S
    → List Wired → Type 0
LooksAs Leads phase.Closed now old new looks = (looks ≡ []) × (new ≡ old)
LooksAs Leads phase.Opening now old new looks =
    (o : Opening) × (looks ≡ Looked o ∷ []) × MakesOfOpening Leads o old new
LooksAs Leads phase.Open now old new looks =
    (h : ConnectionOutcome) × (looks ≡ Listened h ∷ [])
    × (handed : List ℕ) × Hears Leads h now handed old new

-- the dialogue was told what was looked at, and what is told of its connection is this
abbrev pub Sees : {S : Type 0} → (Call → S → S → Type 0) → (S → ConnectionPhase) → (S → List ℕ)
    → ConnectionPhase → (now : ℕ) → S → S → (before after : Option (List Wired)) → Type 0
Sees Leads phase output p now old new before after =
    (looks : List Wired) × LooksAs Leads p now old new looks × ((addresses : List
    (Option SocketAddr)) → Drives Leads phase output addresses old new looks before after)

-- its connection was looked at, and then it was driven
abbrev pub Keeps : {S : Type 0} → (Call → S → S → Type 0) → (S → ConnectionPhase) → (S → List ℕ)
    → List (Option SocketAddr) → S → S → (before after : Option (List Wired)) → Type 0
Keeps Leads phase output addresses old new before after =
    (looks : List Wired) × LooksIn (phase old) looks
    × Drives Leads phase output addresses old new looks before after
