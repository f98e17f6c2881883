-- One connection and its client, where no table is yet.
use Rattle.std.specs.Prelude.{◌≡◌, ◌⊎◌, ◌↔◌, ◌≤◌, ℕ, Bool, true, false, List, [], ◌∷◌, ◌++◌, length}
use Rattle.std.specs.Prelude.{Option, None, Some}
use Rattle.answers.specs.{declared.desk.Desk.Ghosts as DeskOf, Seen.Seen, Seen.settled}
use Rattle.serving.specs.{declared.peers.Peers.Ghosts as PeersOf, Making.speaking, Sessions.outside}
use Rattle.connections.specs.Connections.{AreServedInTurn, Point, Served, begun_of}
use Rattle.serving.specs.{Connection.Begun, Connection.frames_of, TurnLaw.Turn, TurnLaw.begun_in}
use Rattle.serving.specs.{Kinds.message_next, Turns.Talk, Turns.new_talk}
use Rattle.serving.specs.Turns.{IsFree as IsFreeTalk, Receives as Brings}
use Rattle.guarded.specs.LockedConnections.{LockedConnectionOf, IsDear, IsDone, IsFree, Receives}
use Rattle.guarded.specs.LockedConnections.{Moment, WantsRead, after_sent}
use Rattle.guarded.specs.LockedTurns.{Follow, Place}
use Rattle.wire.specs.declared.{values.Version.Version, standing.Difference.Difference}
use Rattle.wire.specs.declared.frame.Frame.{Frame}
use Rattle.polled.specs.Telling.{Tells}
use Rattle.polled.specs.Happenings.{Happened, Gave, Took, Broke}
use Rattle.multiplex.specs.Passing.{AreMessages, IsFate, IsLeft, Settled, Shares, SharesLast}
use Rattle.multiplex.specs.Passing.{pieces, told_why, told_turns}
use Rattle.store.specs.declared.home.Home.{Home}
use Rattle.multiplex.specs.Noting.{AreDue, Ears, IsHeard, IsOff, PutsOff, ears, hear_all}
use Rattle.multiplex.specs.model.Ticks.{Desks, desks}
use Rattle.multiplex.specs.declared.ends.EndReason.{EndReason}
use Rattle.multiplex.specs.declared.{dear.DearTurns.DearTurns, notes.Notes.Notes}
use Rattle.multiplex.specs.declared.ends.EndReason.TheVariants as why

-- a node that serves, the other desks of its hall, its clients, and one of its connections
pub record Spot (V U C : Type 0) : Type 0 where
  pub node : V
  pub peers : U
  pub clients : C
  pub talk : LockedConnectionOf

abbrev pub spot : {V U C : Type 0} → V → U → C → LockedConnectionOf → Spot V U C
spot node peers clients talk =
    record { node = node; peers = peers; clients = clients; talk = talk }

-- the connection with its node, where frames are pushed in this version
abbrev pub place_at : {V U C : Type 0} → (d : DeskOf V) → PeersOf U → (version : Version)
    → Spot V U C → Place (speaking d.handles d.settles version)
place_at d p version s = record {
  guard = s.talk;
  seen = d.seen s.node;
  outside = outside d p version s.node s.peers;
}

-- these turns were taken, in which this many pieces came at most, and these frames were begun
pub record Takes {V U C : Type 0} (d : DeskOf V) (p : PeersOf U)
    (happened : C → Option (List Happened)) (k : ℕ) (cause : Option EndReason) (most : ℕ)
    (begun : List Begun) (a b : Spot V U C) (turns : List Turn) : Type 0 where
  pub few : pieces turns ≤ most
  pub begins : begun_in turns ≡ begun
  pub follow : Follow (place_at d p a.talk.talk.wire a) turns (place_at d p a.talk.talk.wire b)
  pub told : Tells (happened a.clients) (happened b.clients)
      (told_turns k turns ++ told_why k cause)
  pub home : b.talk.talk.home ≡ a.talk.talk.home
  pub wire : b.talk.talk.wire ≡ a.talk.talk.wire

abbrev pub Goes : {V U C : Type 0} → DeskOf V → PeersOf U → (C → Option (List Happened)) → ℕ
    → Option EndReason → ℕ → List Begun → Spot V U C → Spot V U C → Type 0
Goes d p happened k cause most begun a b =
    (turns : List Turn) × Takes d p happened k cause most begun a b turns

-- what is beside a turn: whether a sheet or entries of the log were asked for and answered in the
-- round, what is kept of the client, and how another desk differs
pub record Beside : Type 0 where
  pub spent : Bool
  pub notes : Notes
  pub differs : Option Difference

abbrev pub beside : Bool → Notes → Option Difference → Beside
beside spent notes differs = record { spent = spent; notes = notes; differs = differs }

-- what was said was heard, and what was begun at this time was due then
pub record Beholds (home : Home) (time : ℕ) (x : Seen) (messages last : List Begun)
    (old new : Beside) : Type 0 where
  pub heard : IsHeard home (ears x old.notes.known old.differs) messages new.notes.known new.differs
  pub due : AreDue home (hear_all home (ears x old.notes.known old.differs) messages).seen time
      old.notes.until last

-- messages of desks were begun, and one other frame at most; and the connection goes on, or is to
-- be ended
abbrev pub TalksOn : {V U C : Type 0} → DeskOf V → PeersOf U → (C → Option (List Happened)) → ℕ
    → ℕ → Option EndReason → Beside → Beside → Spot V U C → Spot V U C → Type 0
TalksOn d p happened k time fate old new a b =
    (begun : List Begun) × Goes d p happened k fate 1 begun a b
    × (s : Shares begun old.spent new.spent) × Beholds a.talk.talk.home time (d.seen a.node)
    s.messages s.last old new
    × (fate ≡ None → IsLeft (d.seen b.node) time s.last b.talk new.notes.until) × IsFate fate b.talk

-- what is seen of a desk, and what is there beside, where frames are pushed in this version
abbrev pub point_at : {V U : Type 0} → (d : DeskOf V) → PeersOf U → (version : Version)
    → Desks V U → Point (speaking d.handles d.settles version)
point_at d p version a = record {
  seen = d.seen a.node;
  outside = outside d p version a.node a.peers;
}

-- these frames were served, all of them messages of desks
abbrev pub HearsThese : {V U : Type 0} → DeskOf V → PeersOf U → Version → Home → List Served
    → Desks V U → Desks V U → Type 0
HearsThese d p version home heard a b =
    AreMessages (begun_of heard)
    × AreServedInTurn home (point_at d p version a) heard (point_at d p version b)

abbrev pub HearsOwn : {V U : Type 0} → DeskOf V → PeersOf U → Version → Home → Desks V U → Desks V U
    → Type 0
HearsOwn d p version home a b =
    (heard : List Served) × HearsThese d p version home heard a b

-- such frames were served, and they were the first of those that waited
pub record HearsFirst {V U : Type 0} (d : DeskOf V) (p : PeersOf U) (version : Version)
    (home : Home) (waiting left : List Frame) (a b : Desks V U) : Type 0 where
  pub heard : List Served
  pub served : HearsThese d p version home heard a b
  pub first : waiting ≡ frames_of (begun_of heard) ++ left

-- the messages of desks were served that a connection brought, until another frame is next, or
-- none, unless the connection ended
pub record HearsNext {V U : Type 0} (d : DeskOf V) (p : PeersOf U) (old new : Talk)
    (a b : Desks V U) : Type 0 where
  pub first : HearsFirst d p old.wire old.home old.waiting new.waiting a b
  pub all : IsFreeTalk new → message_next new.waiting ≡ false

-- they were, of a connection that brought these bytes
abbrev pub HearsBytes : {V U : Type 0} → DeskOf V → PeersOf U → Version → Home → List ℕ
    → Desks V U → Desks V U → Type 0
HearsBytes d p version home bytes a b =
    (came : Talk) × (left : Talk) × Brings bytes (new_talk home version) came
    × HearsNext d p came left a b

-- what waited waits no more, and it was heard so, unless memory was refused for a connection
pub record HearsAll {V U : Type 0} (d : DeskOf V) (p : PeersOf U) (waits : U → List ℕ)
    (version : Version) (home : Home) (a b : Desks V U) : Type 0 where
  pub taken : U
  pub none : waits taken ≡ []
  pub handed : p.handed taken ≡ p.handed a.peers
  pub heard : (b ≡ desks a.node taken)
      ⊎ HearsBytes d p version home (waits a.peers) (desks a.node taken) b

-- it was, or nothing is to be heard now
abbrev pub HearsWhere : {V U : Type 0} → DeskOf V → PeersOf U → (U → List ℕ) → Bool → Version → Home
    → Desks V U → Desks V U → Type 0
HearsWhere d p waits true version home a b = HearsAll d p waits version home a b
HearsWhere d p waits false version home a b = b ≡ a

-- it was, and what was changed by then is settled, or that failed
abbrev pub HearsThenSettles : {V U : Type 0} → DeskOf V → PeersOf U → (U → List ℕ) → Bool → Version
    → Home → Bool → Desks V U → V → Type 0
HearsThenSettles {V} {U} d p waits hears version home ok a node =
    (between : Desks V U) × HearsWhere d p waits hears version home a between
    × d.settles between.node ok node

-- such frames were served, and what was changed by then is settled, or that failed; nothing more
-- was handed over by that
pub record SettlesDesks {V U : Type 0} (d : DeskOf V) (p : PeersOf U) (version : Version)
    (home : Home) (ok : Bool) (a b : Desks V U) : Type 0 where
  pub between : Desks V U
  pub hears : HearsOwn d p version home a between
  pub settles : d.settles between.node ok b.node
  pub seen : d.seen b.node ≡ settled ok (d.seen between.node)
  pub handed : p.handed b.peers ≡ p.handed between.peers

-- so it is, or nothing was to be settled
abbrev pub Rests : {V U : Type 0} → DeskOf V → PeersOf U → Version → Home → Bool → Desks V U
    → Desks V U → Type 0
Rests d p version home ok a b = SettlesDesks d p version home ok a b ⊎ ((ok ≡ true) × (b ≡ a))

-- What was served is settled then; serving is over where that fails, and only there.
abbrev pub ThenSettles : {V U : Type 0} → DeskOf V → PeersOf U → Version → Home → Option EndReason
    → Desks V U → (Desks V U → Type 0) → Type 0
ThenSettles {V} {U} d p version home fate b Serves =
    (served : Desks V U) × (ok : Bool) × Serves served × ((ok ≡ false) ↔ (fate ≡ Some why.Over))
    × Rests d p version home ok served b

-- true where nothing failed
abbrev pub broken : Bool → Option EndReason
broken true = None
broken false = Some why.Broke

-- what is done once is all that was told of it
abbrev pub Sends : {C : Type 0} → (C → Option (List Happened)) → ℕ → Bool → C → C
    → LockedConnectionOf → LockedConnectionOf → Type 0
Sends happened k true c later old new =
    ((bytes : List ℕ) × (old.output ≡ bytes ++ new.output) × (new ≡ after_sent old (length bytes))
    × Tells (happened c) (happened later) (Took k bytes ∷ []))
    ⊎ ((new ≡ old) × Tells (happened c) (happened later) [])
Sends happened k false c later old new =
    (new ≡ old) × Tells (happened c) (happened later) (Broke k ∷ [])

abbrev pub Reads : {C : Type 0} → (C → Option (List Happened)) → ℕ → Option EndReason → C → C
    → LockedConnectionOf → LockedConnectionOf → Type 0
Reads happened k None c later old new =
    ((piece : List ℕ) × Receives piece old new × Tells (happened c) (happened later)
    (Gave k piece ∷ [])) ⊎ ((new ≡ old) × Tells (happened c) (happened later) [])
Reads happened k (Some w) c later old new =
    (new ≡ old) × Tells (happened c) (happened later) (told_why k (Some w)) × IsFate (Some w) new

-- all that came is served, or the connection ended and its answers were taken
abbrev pub SettledOrDone : LockedConnectionOf → Type 0
SettledOrDone c = Settled c ⊎ IsDone c

-- whether a frame may be begun that is not put off: it asks for nothing dear, or it is the first in
-- this round that does; and it is put off where it does and may not
abbrev pub MayShare : Bool → LockedConnectionOf → Bool → Bool → Type 0
MayShare true c spent later =
    ((IsDear c → ⊥) × (later ≡ spent)) ⊎ (IsDear c × (spent ≡ false) × (later ≡ true))
MayShare false c spent later = IsDear c × (later ≡ spent)

-- an Await that is not to be answered yet is put off whatever else may be begun
abbrev pub MayBegin : Bool → Home → Seen → ℕ → LockedConnectionOf → Notes → Notes → Bool → Bool
    → Type 0
MayBegin may home x time c old new spent later =
    (off : Bool) × PutsOff off home x time c old new × (((off ≡ true) × (may ≡ false)
    × (later ≡ spent)) ⊎ ((off ≡ false) × MayShare may c spent later))

-- where no frame was begun: so it is, or the next one was put off
abbrev pub IsLeftOrDone : Seen → ℕ → List Begun → LockedConnectionOf → Option ℕ → Type 0
IsLeftOrDone x time [] c until = SettledOrDone c ⊎ (IsDear c ⊎ IsOff x time c until)
IsLeftOrDone x time (one ∷ more) c until = Unit {0}

-- where a frame was begun, one might be, and this one was due
abbrev pub BeginsDue : Home → Seen → ℕ → Option ℕ → LockedConnectionOf → List Begun → Type 0
BeginsDue home x time until c [] = Unit {0}
BeginsDue home x time until c (one ∷ more) = IsFree c × AreDue home x time until (one ∷ more)

-- a frame of a client was begun
abbrev pub HasBegun : Bool → List Begun → Type 0
HasBegun true [] = ⊥
HasBegun true (one ∷ more) = Unit {0}
HasBegun false begun = Unit {0}

-- no piece came, and one frame at most was begun
abbrev pub ServesOne : {V U C : Type 0} → DeskOf V → PeersOf U → (C → Option (List Happened)) → ℕ
    → ℕ → Option EndReason → Bool → Bool → Bool → Notes → Notes → Spot V U C → Spot V U C → Type 0
ServesOne d p happened k time cause served spent later old new a b =
    (begun : List Begun) × Goes d p happened k cause 0 begun a b × SharesLast begun spent later
    × BeginsDue a.talk.talk.home (d.seen a.node) time old.until a.talk begun
    × IsLeftOrDone (d.seen b.node) time begun b.talk new.until × HasBegun served begun

-- no piece came, and messages of desks were begun, and heard: so it is seen where a frame may be
-- begun
abbrev pub HearsDesks : {V U C : Type 0} → DeskOf V → PeersOf U → (C → Option (List Happened)) → ℕ
    → Ears → List ℕ → Option Difference → Spot V U C → Spot V U C → Type 0
HearsDesks d p happened k e known differs a b =
    (begun : List Begun) × Goes d p happened k None 0 begun a b × AreMessages begun
    × IsHeard a.talk.talk.home e begun known differs
    × (IsFree b.talk → d.seen b.node ≡ (hear_all a.talk.talk.home e begun).seen)

-- no piece came, and messages of desks were begun, and then one frame at most
abbrev pub ServesNext : {V U C : Type 0} → DeskOf V → PeersOf U → (C → Option (List Happened)) → ℕ
    → ℕ → Option EndReason → Bool → Beside → Beside → Spot V U C → Spot V U C → Type 0
ServesNext d p happened k time cause served old new a b =
    (begun : List Begun) × Goes d p happened k cause 0 begun a b
    × (s : Shares begun old.spent new.spent)
    × Beholds a.talk.talk.home time (d.seen a.node) s.messages s.last old new
    × IsLeftOrDone (d.seen b.node) time s.last b.talk new.notes.until × HasBegun served s.last

-- so it is beside any client: nothing is told meanwhile
abbrev pub ServesAlone : {V U : Type 0} → DeskOf V → PeersOf U → ℕ → ℕ → Bool → DearTurns
    → DearTurns → Notes → Notes → Option Difference → Option Difference → Moment V U → Moment V U
    → Type 0
ServesAlone d p k time served dear later notes new differs said a b =
    ServesNext d p Some k time None served (beside dear.spent notes differs)
    (beside later.spent new said) (spot a.node a.peers [] a.guard) (spot b.node b.peers [] b.guard)

-- a write; or a read, where nothing is to be sent and all that came is served; or nothing
abbrev pub Moves : {C : Type 0} → (C → Option (List Happened)) → ℕ → Option EndReason → C → C
    → LockedConnectionOf → LockedConnectionOf → Type 0
Moves happened k cause c later old new =
    ((ok : Bool) × (cause ≡ broken ok) × Sends happened k ok c later old new)
    ⊎ ((WantsRead old × Reads happened k cause c later old new)
    ⊎ ((cause ≡ None) × (new ≡ old) × Tells (happened c) (happened later) []))
