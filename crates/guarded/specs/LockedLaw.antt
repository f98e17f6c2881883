-- What follows of the turns of a guarded connection (the project's own).
use Rattle.std.specs.Prelude.{◌≡◌, ◌⊎◌, ℕ, Bool, true, false, List, [], ◌∷◌, ◌++◌, length, Option}
use Rattle.std.specs.Prelude.{None, Some, IsSome, IsTrue}
use Rattle.std.specs.List.{AllByRecursion, flat_map}
use Rattle.answers.specs.declared.desk.Desk.{Ghosts as DeskOf}
use Rattle.seal.specs.{Records.AreBodies, Records.preface_of, Records.records, Streams.joined}
use Rattle.sealed.specs.Admitting.{Admits, comes_under}
use Rattle.sealed.specs.{ServerSeals.caller_of, Fronts.IsShort, Sent.IsSent}
use Rattle.sealed.specs.declared.callers.{Caller.Caller, DeskKeys.DeskKeys}
use Rattle.sealed.specs.declared.callers.Caller.TheVariants.{Anyone, Visitor}
use Rattle.sealed.specs.declared.callers.Access.{Access, TheVariants.Locked}
use Rattle.serving.specs.Connection.{Begun, asked, frames_of}
use Rattle.serving.specs.{Making.Way, Making.speaking, declared.request.Request.Request}
use Rattle.serving.specs.declared.request.Request.TheVariants.{Heard, Lagging, Learned}
use Rattle.serving.specs.TurnLaw.{AreServed, Began, Turn, begun_in, handed_out, received}
use Rattle.store.specs.declared.home.Home.{Home}
use Rattle.wire.specs.{declared.values.Version.Version, Spelling.spelling}
use Rattle.guarded.specs.LockedConnections.{LockedConnectionOf, fresh_locked_connection}
use Rattle.guarded.specs.LockedTurns.{Follow, Place, within}
use Rattle.guarded.specs.Permitting.{permission_of}
use Rattle.sealed.specs.declared.callers.Caller.TheVariants as caller

-- ---- what is let in and served, and what is sent

-- Of what came, a front part was read: all of it, but once memory was refused.
pub record IsRead (came front : List ℕ) (who : Option Caller)
    (g : LockedConnectionOf) : Type 0 where
  pub later : List ℕ
  pub parts : came ≡ front ++ later
  pub whole : g.starved ≡ false → (later ≡ []) × (who ≡ caller_of g.called)

-- what a desk sends first: its preface, where the client's came whole or the stream is refused
abbrev pub IsGreeting : List ℕ → List ℕ → Option Caller → List ℕ → Type 0
IsGreeting server front (Some Anyone) first = first ≡ []
IsGreeting server front (Some Visitor) first = first ≡ []
IsGreeting server front (Some (caller.Holder key)) first = first ≡ preface_of server
IsGreeting server front None first =
    (IsShort front × (first ≡ [])) ⊎ (first ≡ preface_of server)

-- it is known who calls, and a frame is served as far as they may ask
pub record IsAllowed (doors : Access) (who : Option Caller) (one : Begun) : Type 0 where
  pub known : IsSome who
  pub may : one.may ≡ permission_of doors who

abbrev pub AreAllowed : Access → Option Caller → List Begun → Type 0
AreAllowed doors who begun = AllByRecursion (λ (one : Begun). IsAllowed doors who one) begun

-- What came, as far as it was read, was let in as the doors admit it. What was sent is the desk's
-- preface, where there is one, and then the answers, sealed as the stream of the caller. Each frame
-- was begun as one of the caller.
pub record IsGuardedStream (doors : Access) (server : List ℕ) (g : LockedConnectionOf)
    (came sent handed answers : List ℕ) (begun : List Begun) : Type 0 where
  pub who : Option Caller
  pub front : List ℕ
  pub first : List ℕ
  pub body : List ℕ
  pub read : IsRead came front who g
  pub admits : Admits doors server front handed who
  pub parts : sent ++ g.output ≡ first ++ body
  pub greets : IsGreeting server front who first
  pub sends : IsSent doors server front who answers body
  pub allowed : AreAllowed doors who begun

-- The stream is so, and the frames begun are first in what was let in, and are served.
pub record IsGuarded {V : Type 0} {way : Way V} (home : Home) (doors : Access) (server : List ℕ)
    (a b : Place way) (came sent : List ℕ) (begun : List Begun) : Type 0 where
  pub handed : List ℕ
  pub answers : List ℕ
  pub rest : List ℕ
  pub stream : IsGuardedStream doors server b.guard came sent handed answers begun
  pub served : AreServed home (within a) (within b) handed answers begun rest

-- of every list of turns of a guarded connection with a desk of a kind, from its first turn on
abbrev pub GuardsServe : {V : Type 0} → DeskOf V → Type 0
GuardsServe d =
    (home : Home) (wire : Version) (doors : Access) (server : List ℕ) (turns : List Turn)
    (a b : Place (speaking d.handles d.settles wire))
    → a.guard ≡ fresh_locked_connection doors server home wire → Follow a turns b
    → IsGuarded home doors server a b (received turns) (handed_out turns) (begun_in turns)

-- ---- what is delivered

-- a message of another desk is delivered, or entries of its log are
abbrev pub delivers : Request → Bool
delivers (Heard m) = true
delivers (Lagging m) = true
delivers (Learned run) = true
delivers _ = false

-- one of the hall's keys: its own, or the one that was its own until it is changed at each desk
abbrev pub IsHallKey : DeskKeys → List ℕ → Type 0
IsHallKey locks key = (key ≡ locks.hall) ⊎ ((locks.old ≡ true) × (locks.entry ≡ Some key))

-- What came is a client's preface, records whose tags fit under one of the hall's keys, numbered
-- from 0, and a rest; and in the bodies of these records is this frame, after those before it.
pub record IsUnderHall (locks : DeskKeys) (server came : List ℕ) (earlier : List Begun)
    (one : Begun) : Type 0 where
  pub key : List ℕ
  pub halls : IsHallKey locks key
  pub client : List ℕ
  pub bodies : List (List ℕ)
  pub rest : List ℕ
  pub more : List ℕ
  pub sixteen : length client ≡ 16
  pub whole : came ≡ preface_of client ++ (records (comes_under client server key) 0 bodies ++ rest)
  pub each : AreBodies 0 bodies
  pub inside : joined bodies ≡ flat_map spelling (frames_of earlier) ++ (spelling one.frame ++ more)

-- At a desk with a key, each frame that delivers a message is in records that fit under one of the
-- hall's keys, of what came before the frame was begun.
abbrev pub DeliversUnderHall : {V : Type 0} → DeskOf V → Type 0
DeliversUnderHall d =
    (home : Home) (wire : Version) (locks : DeskKeys) (server : List ℕ) (earlier later : List Turn)
    (one : Begun) (a b : Place (speaking d.handles d.settles wire))
    → a.guard ≡ fresh_locked_connection (Locked locks) server home wire
    → Follow a (earlier ++ Began one ∷ later) b → IsTrue (delivers (asked home one))
    → IsUnderHall locks server (received earlier) (begun_in earlier) one
