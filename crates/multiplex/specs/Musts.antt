-- What a desk has to ask of its clients and its links at each step (the project's own).
use Rattle.std.specs.Prelude.{◌≡◌, ◌≢◌, ◌⊎◌, ◌≤◌, ◌<◌, ℕ, ◌-◌, min, List, [], ◌∷◌, ◌++◌, length}
use Rattle.std.specs.Prelude.{Option, None, Some, Bool, true, false, IfSome, ◌↔◌, ◌+◌, vec_len}
use Rattle.std.specs.{Prelude.vec_capacity, Global.Vec, List.AllByRecursion}
use Rattle.answers.specs.Seen.{Seen}
use Rattle.guarded.specs.LockedConnections.{LockedConnectionOf, WantsRead, begun}
use Rattle.multiplex.specs.{Dear.fresh_dear, Noting.awakes, Silence.waited_for}
use Rattle.store.specs.declared.home.Home.{Home}
use Rattle.polled.specs.Requests.{Request, Waited, Accepting, Reading, Writing, Watching, Closing}
use Rattle.polled.specs.declared.answers.{Ready.Ready, AcceptedPeer.AcceptedPeer}
use Rattle.polled.specs.declared.answers.{ReadOutcome.ReadOutcome, WriteOutcome.WriteOutcome}
use Rattle.multiplex.specs.declared.{ends.ServingEnd.ServingEnd, own_ticks.OwnTicks.OwnTicks}
use Rattle.multiplex.specs.declared.table.{Guest.Guest, ClientTable.ClientTable}
use Rattle.multiplex.specs.declared.table.ServingOptions.{ServingOptions}
use Rattle.ticking.specs.Ticking.{Ticking, left}
use Rattle.polled.specs.declared.answers.Ready.TheVariants as ready_is
use Rattle.polled.specs.declared.answers.AcceptedPeer.TheVariants as accepted_is
use Rattle.multiplex.specs.declared.ends.ServingEnd.TheVariants as over_is

-- ---- how long it is waited

-- how long it is until the next Tick is due, if one ever is
abbrev pub left_at : Option Ticking → ℕ → Option ℕ
left_at None now = None
left_at (Some t) now = Some (left t now)

-- a frame waits after those that waited before, or memory was refused, since there was no room
abbrev pub WaitsAfter : List ℕ → (old new : Vec ℕ) → Type 0
WaitsAfter frame old new =
    (new.items ≡ old.items ++ frame)
    ⊎ ((new.items ≡ old.items) × (vec_capacity old < vec_len old + length frame))

-- where own frames wait beside the links, they are to be kept at once
abbrev pub due_beside : {L : Type 0} → (L → ℕ → Option ℕ → Type 0) → List ℕ → L → ℕ → Option ℕ
    → Type 0
due_beside due [] links now left = due links now left
due_beside due (byte ∷ more) links now left = left ≡ Some 0

abbrev pub shorter : Option ℕ → ℕ → ℕ
shorter None millis = millis
shorter (Some left) millis = min left millis

-- at most a second, at most until the links are to be kept again, and at most until a Tick of the
-- desk's own is due
abbrev pub wait_by : Option ℕ → Option ℕ → ℕ
wait_by links own = shorter own (shorter links 1000)

-- ---- a client was named as ready

-- all that is to be sent to it is offered to it; or else it is read from, where all that came is
-- served; or else nothing is asked
abbrev pub IsMove : ℕ → LockedConnectionOf → List Request → Type 0
IsMove k c asked =
    ((c.output ≢ []) × ((t : WriteOutcome) × (asked ≡ Writing k (length c.output) t ∷ [])))
    ⊎ ((WantsRead c × ((g : ReadOutcome) × (asked ≡ Reading k g ∷ [])))
    ⊎ ((c.output ≡ []) × (WantsRead c → ⊥) × (asked ≡ [])))

-- all that came is served and all is sent, or an Await is put off
abbrev pub WaitsToRead : Guest → Type 0
WaitsToRead g = WantsRead g.talk ⊎ (g.notes.until ≢ None)

-- It is asked to be named again: when it can be read from, where it waits for that, or else when it
-- can take bytes. Where an Await was put off before and still is, nothing is asked: it is named
-- when more comes, and once the Await is to be answered.
abbrev pub IsWatched : ℕ → Guest → Guest → List Request → Type 0
IsWatched k old g asked =
    ((old.notes.until ≢ None) × (g.notes.until ≢ None) × (asked ≡ [])) ⊎ (((old.notes.until ≡ None)
    ⊎ (g.notes.until ≡ None)) × ((writes : Bool) × ((writes ≡ false) ↔ WaitsToRead g)
    × (asked ≡ Watching k writes true ∷ [])))

-- that is asked at last
pub record Stays (k : ℕ) (one : Guest) (before after new : List Guest) (last : List Request)
    : Type 0 where
  pub later : Guest
  pub stays : new ≡ before ++ later ∷ after
  pub watched : IsWatched k one later last

-- or its connection is ended
pub record Leaves (k : ℕ) (before after new : List Guest) (last : List Request) : Type 0 where
  pub leaves : new ≡ before ++ after
  pub closed : last ≡ Closing k ∷ []

-- what is asked where its connection is open
pub record IsAttended (k : ℕ) (old new : List Guest) (asked : List Request) : Type 0 where
  pub before : List Guest
  pub after : List Guest
  pub one : Guest
  pub found : old ≡ before ++ one ∷ after
  pub number : one.number ≡ k
  pub first : List Request
  pub move : IsMove k one.talk first
  pub more : List Request
  pub last : List Request
  pub end : Stays k one before after new last ⊎ Leaves k before after new last
  pub all : asked ≡ first ++ (more ++ last)

-- and nothing is asked where it is not
abbrev pub Attends : ℕ → List Guest → List Guest → List Request → Type 0
Attends k old new asked =
    (AllByRecursion (λ (g : Guest). g.number ≢ k) old × (asked ≡ [])) ⊎ IsAttended k old new asked

-- ---- a client waits

-- Where the system has no socket for it, one of those that are open is let go, if there is one. It
-- is turned away where there is no memory for it.
abbrev pub MakesPlace : ℕ → ℕ → AcceptedPeer → List Request → Type 0
MakesPlace k count accepted_is.Full more =
    ((count ≡ 0) × (more ≡ [])) ⊎ ((j : ℕ) × (more ≡ Closing j ∷ []))
MakesPlace k count (accepted_is.Came random) more = (more ≡ []) ⊎ (more ≡ Closing k ∷ [])
MakesPlace k count accepted_is.Nobody more = more ≡ []

-- it is accepted, where this many connections are open
abbrev pub Accepts : ℕ → ℕ → List Request → Type 0
Accepts k count asked =
    (a : AcceptedPeer) × (more : List Request) × (asked ≡ Accepting k a ∷ more)
    × MakesPlace k count a more

-- where as many are open as may be, one of them is let go first, by which serving may be over
abbrev pub Crowds : ℕ → ℕ → Option ServingEnd → List Request → Type 0
Crowds k count over asked =
    (j : ℕ) × (more : List Request) × (asked ≡ Closing j ∷ more)
    × (((over ≢ None) × (more ≡ [])) ⊎ Accepts k (count - 1) more)

-- nothing is asked where no other client is wanted
abbrev pub Admits : ServingOptions → Option ServingEnd → ClientTable → List Request → Type 0
Admits t over old asked =
    ((t.most ≤ old.next) × (asked ≡ [])) ⊎ (((length old.guests.items < 512) × Accepts old.next
    (length old.guests.items) asked)
    ⊎ ((512 ≤ length old.guests.items) × Crowds old.next (length old.guests.items) over asked))

-- ---- a round is over

-- each client was ready within the time for which it is waited for
abbrev pub NoneIsSilent : ℕ → ClientTable → Type 0
NoneIsSilent patience table =
    AllByRecursion
    (λ (g : Guest). table.time - g.ready ≤ waited_for patience (begun g.talk)) table.guests.items

-- the last moment at which the links were kept, where that is known
abbrev pub WereKeptAt : ℕ → Option (List ℕ) → Type 0
WereKeptAt now kept =
    IfSome kept (λ moments. (earlier : List ℕ) × (moments ≡ earlier ++ now ∷ []))

-- the client is asked to be named in the next round, where an Await of it is put off that is to be
-- answered now: it is to be named when it can take bytes
abbrev pub IsWoken : Home → Seen → ℕ → List Request → Guest → Type 0
IsWoken home x time asked g =
    awakes home x time g.talk g.notes ≡ true
    → ((before : List Request) × (told : Bool) × (after : List Request)
    × (asked ≡ before ++ Watching g.number true told ∷ after))

-- where serving goes on, the links are kept, those are woken whose Await is to be answered, and
-- clients that are silent for too long are let go
pub record EndsRound (t : ServingOptions) (home : Home) (now : ℕ) (over : Option ServingEnd)
    (x : Seen) (new : ClientTable) (kept : Option (List ℕ)) (asked : List Request) : Type 0 where
  pub time : new.time ≡ now
  pub links : over ≡ None → WereKeptAt now kept
  pub woken : over ≡ None → AllByRecursion (IsWoken home x now asked) new.guests.items
  pub silent : over ≡ None → NoneIsSilent t.patience new

-- ---- a step

abbrev pub Follows : ServingOptions → Home → Seen → Option ServingEnd → ClientTable → ClientTable
    → Option (List ℕ) → Ready → List Request → Type 0
Follows t home x over old new kept ready_is.Waits more = Admits t over old more
Follows t home x over old new kept (ready_is.Peer k) more =
    Attends k old.guests.items new.guests.items more
Follows t home x over old new kept (ready_is.Round now) more =
    EndsRound t home now over x new kept more
Follows t home x over old new kept ready_is.Failed more =
    (over ≡ Some over_is.Failed) × (more ≡ [])

-- It is waited until something is ready, as long as may be, and then that is done which is to be
-- done. What the links say of when they are to be kept again is first. This is seen of the desk
-- behind the step.
pub record Musts {L : Type 0} (due : L → ℕ → Option ℕ → Type 0) (kept : L → Option (List ℕ))
    (t : ServingOptions) (home : Home) (x : Seen) (over : Option ServingEnd) (old new : ClientTable)
    (links later : L) (asked : List Request) : Type 0 where
  pub left : Option ℕ
  pub says : due links old.time left
  pub ready : Ready
  pub more : List Request
  pub all : asked ≡ Waited (wait_by left (left_at old.own.ticker old.time)) ready ∷ more
  pub follows : Follows t home x over old new (kept later) ready more

-- ---- serving from its first client to its end

-- what is between two steps: the clients whose connections are open, the links, and what is seen of
-- the desk
pub record Stand (L : Type 0) : Type 0 where
  pub table : ClientTable
  pub links : L
  pub seen : Seen

abbrev pub stand : {L : Type 0} → ClientTable → L → Seen → Stand L
stand table links seen = record { table = table; links = links; seen = seen }

-- steps after each of which serving goes on, with what was asked at each
abbrev pub GoesOn : {L : Type 0} → (L → ℕ → Option ℕ → Type 0) → (L → Option (List ℕ))
    → ServingOptions → Home → Stand L → List (List Request) → Stand L → Type 0
GoesOn due kept t home a [] b = a ≡ b
GoesOn {L} due kept t home a (asked ∷ steps) b =
    (m : Stand L) × Musts due kept t home m.seen None a.table m.table a.links m.links asked
    × GoesOn due kept t home m steps b

abbrev pub joined : List (List Request) → List Request
joined [] = []
joined (asked ∷ steps) = asked ++ joined steps

-- After this many steps serving is over: as many clients as were asked for came and left; or it
-- took 2^64 - 1 steps; or a further step, at which this was asked, ended it.
abbrev pub Ends : {L : Type 0} → (L → ℕ → Option ℕ → Type 0) → (L → Option (List ℕ))
    → ServingOptions → Home → ServingEnd → ℕ → Stand L → Stand L → List Request → Type 0
Ends due kept t home over count a b last =
    ((over ≡ over_is.All) × (a.table.guests.items ≡ []) × (t.most ≤ a.table.next) × (b ≡ a)
    × (last ≡ [])) ⊎ (((over ≡ over_is.Tired) × (count ≡ 18446744073709551615) × (b ≡ a)
    × (last ≡ [])) ⊎ Musts due kept t home b.seen (Some over) a.table b.table a.links b.links last)

-- all that is asked while it is served
pub record AsksUntil {L : Type 0} (due : L → ℕ → Option ℕ → Type 0) (kept : L → Option (List ℕ))
    (t : ServingOptions) (home : Home) (over : ServingEnd) (a b : Stand L)
    (asked : List Request) : Type 0 where
  pub steps : List (List Request)
  pub mid : Stand L
  pub last : List Request
  pub goes : GoesOn due kept t home a steps mid
  pub ends : Ends due kept t home over (length steps) mid b last
  pub all : asked ≡ joined steps ++ last

-- all that is to be sent to a client is offered to it, where there is such
abbrev pub OffersLast : ℕ → List ℕ → List Request → Type 0
OffersLast k output asked =
    ((output ≢ []) × ((t : WriteOutcome) × (asked ≡ Writing k (length output) t ∷ [])))
    ⊎ ((output ≡ []) × (asked ≡ []))

-- and then its connection is ended
abbrev pub IsEndOf : Guest → List Request → Type 0
IsEndOf g asked =
    (first : List Request) × OffersLast g.number g.talk.output first
    × (asked ≡ first ++ Closing g.number ∷ [])

-- at the end those of all are ended, the last one first
abbrev pub AreEndsOf : List Guest → List Request → Type 0
AreEndsOf [] asked = asked ≡ []
AreEndsOf (g ∷ guests) asked =
    (first : List Request) × (last : List Request) × AreEndsOf guests first × IsEndOf g last
    × (asked ≡ first ++ last)

-- before the first client
abbrev pub IsFresh : OwnTicks → ClientTable → Type 0
IsFresh own t =
    (t.guests.items ≡ []) × (t.next ≡ 0) × (t.time ≡ 0) × (t.own ≡ own) × (t.dear ≡ fresh_dear)
    × (t.differs ≡ None)

-- from the first client to the last
pub record ServesDuly {L : Type 0} (due : L → ℕ → Option ℕ → Type 0) (kept : L → Option (List ℕ))
    (t : ServingOptions) (home : Home) (over : ServingEnd) (own : OwnTicks) (first last : L)
    (before_it : Seen) (asked : List Request) : Type 0 where
  pub before : ClientTable
  pub fresh : IsFresh own before
  pub after : ClientTable
  pub served : List Request
  pub seen : Seen
  pub until : AsksUntil due kept t home over (stand before first before_it)
      (stand after last seen) served
  pub ends : List Request
  pub ended : AreEndsOf after.guests.items ends
  pub all : asked ≡ served ++ ends

-- nothing is asked where there was no memory to begin
abbrev pub AsksDuly : {L : Type 0} → (L → ℕ → Option ℕ → Type 0) → (L → Option (List ℕ))
    → ServingOptions → Home → ServingEnd → OwnTicks → L → L → Seen → List Request → Type 0
AsksDuly due kept t home over own first last x asked =
    ((over ≡ over_is.NoMemory) × (asked ≡ []))
    ⊎ ServesDuly due kept t home over own first last x asked
