-- A connection behind its door: what it has between two turns, and what each call does (the
-- project's own).
use Rattle.std.specs.Prelude.{◌≡◌, ◌≢◌, ◌⊎◌, ℕ, ◌&&◌, not, Bool, true, false, List, [], ◌∷◌, length}
use Rattle.std.specs.Prelude.{drop, Option, None, Some}
use Rattle.answers.specs.declared.desk.Desk.{Ghosts as DeskOf}
use Rattle.seal.specs.Records.{preface_of}
use Rattle.sealed.specs.ServerSeals.{ServerSealOf, IsSameDesk, KeepsCaller, Sends, caller_of}
use Rattle.sealed.specs.ServerSeals.{fresh_server_seal, is_over, is_sealed}
use Rattle.sealed.specs.declared.callers.{Caller.Caller, Access.Access, StreamRefusal.StreamRefusal}
use Rattle.sealed.specs.declared.callers.Caller.TheVariants.{Anyone, Visitor}
use Rattle.sealed.specs.declared.callers.StreamRefusal.TheVariants.{Unsealed, NoMemory}
use Rattle.sealed.specs.Sent.{KeepsSent}
use Rattle.serving.specs.{Differing.first_frame, declared.peers.Peers.Ghosts as PeersOf}
use Rattle.serving.specs.{Kinds.dear_next, Kinds.message_next, Turns.Talk, Turns.new_talk}
use Rattle.store.specs.declared.home.Home.{Home}
use Rattle.wire.specs.declared.{frame.Frame.Frame, values.Version.Version}
use Rattle.wire.specs.declared.standing.Difference.{Difference}
use Rattle.guarded.specs.Permitting.{permission_of}
use Rattle.sealed.specs.ServerSeals as Calls
use Rattle.sealed.specs.declared.callers.Caller.TheVariants as caller
use Rattle.serving.specs.Turns as Turns

-- what a guarded connection has between two turns
pub record LockedConnectionOf : Type 0 where
  -- what came, as far as it is let in, and the connection that serves what is let in
  pub called : ServerSealOf
  pub talk : Talk
  -- what is to be sent, and was not taken yet
  pub output : List ℕ
  -- whether memory was refused, after which nothing more is read, served or sent
  pub starved : Bool

-- before the first turn
abbrev pub fresh_locked_connection : Access → List ℕ → Home → Version → LockedConnectionOf
fresh_locked_connection doors random home wire = record {
  called = fresh_server_seal doors random;
  talk = new_talk home wire;
  output = [];
  starved = false;
}

-- a frame may be begun: the connection did not end, and nothing is still to be sent
pub record IsFree (g : LockedConnectionOf) : Type 0 where
  pub fed : g.starved ≡ false
  pub unended : g.talk.end ≡ None
  pub taken : g.output ≡ []

-- a frame may be begun, and the next one asks for a sheet or for entries of the log
pub record IsDear (g : LockedConnectionOf) : Type 0 where
  pub free : IsFree g
  pub next : dear_next g.talk.waiting ≡ true

-- a frame may be begun, and the next one is a message of a desk to a desk
pub record HearsDesk (g : LockedConnectionOf) : Type 0 where
  pub free : IsFree g
  pub next : message_next g.talk.waiting ≡ true

-- the next piece may come: all that came before is served, and what comes may still be let in
pub record WantsRead (g : LockedConnectionOf) : Type 0 where
  pub fed : g.starved ≡ false
  pub taken : g.output ≡ []
  pub hears : is_over g.called ≡ false
  pub served : Turns.WantsRead g.talk

-- which record has begun to come, where the connection waits for the rest of it: all that came
-- before is served, and all is sent
abbrev pub begun_after : Option Frame → List ℕ → Option ℕ → Option ℕ
begun_after None [] begun = begun
begun_after None (b ∷ more) begun = None
begun_after (Some f) output begun = None

abbrev pub begun : LockedConnectionOf → Option ℕ
begun g = begun_after (first_frame g.talk.waiting) g.output (Calls.begun g.called)

-- Nothing more comes of the connection: memory was refused, it ended, or nothing more is let in,
-- and all that was let in is served.
abbrev pub IsOver : LockedConnectionOf → Type 0
IsOver g =
    (g.starved ≡ true)
    ⊎ ((g.talk.end ≢ None) ⊎ ((is_over g.called ≡ true) × Turns.WantsRead g.talk))

-- and all was sent
pub record IsDone (g : LockedConnectionOf) : Type 0 where
  pub over : IsOver g
  pub taken : g.output ≡ []

-- ---- a piece comes

-- The desk sends its preface: the client's is whole with this piece, and was not before it; or the
-- stream is refused.
abbrev pub greets : Option StreamRefusal → Bool → Bool → Bool
greets None before now = now && not before
greets (Some Unsealed) before now = true
greets (Some NoMemory) before now = false

abbrev pub greeting_if : Bool → List ℕ → List ℕ
greeting_if true random = preface_of random
greeting_if false random = []

-- memory was refused: nothing is let in, and nothing more is to be sent
pub record Starves (old new : LockedConnectionOf) : Type 0 where
  pub starved : new.starved ≡ true
  pub talk : new.talk ≡ old.talk
  pub output : new.output ≡ old.output

-- the piece came, and with it these bytes are let in, and served
pub record LetsIn (piece more : List ℕ) (old new : LockedConnectionOf) : Type 0 where
  pub receives : Calls.Receives piece old.called new.called more
  pub same : IsSameDesk old.called new.called
  pub sends : KeepsSent old.called new.called
  pub stays : KeepsCaller old.called new.called
  pub talk : Turns.Receives more old.talk new.talk
  pub output : new.output ≡ greeting_if
      (greets new.called.refusal (is_sealed old.called) (is_sealed new.called)) new.called.random
  pub fed : new.starved ≡ false

abbrev pub Receives : List ℕ → LockedConnectionOf → LockedConnectionOf → Type 0
Receives piece old new = Starves old new ⊎ ((more : List ℕ) × LetsIn piece more old new)

-- ---- a frame is begun

-- the caller is let in without a key
abbrev pub is_plain : Option Caller → Bool
is_plain (Some Anyone) = true
is_plain (Some Visitor) = true
is_plain (Some (caller.Holder key)) = false
is_plain None = false

-- the caller has a key of the desk
abbrev pub has_key : Option Caller → Bool
has_key (Some (caller.Holder key)) = true
has_key _ = false

-- the connection was served to here, and memory is refused for what is sent of its answer
pub record Loses (served : Talk) (old new : LockedConnectionOf) : Type 0 where
  pub starved : new.starved ≡ true
  pub talk : new.talk ≡ served
  pub output : new.output ≡ old.output

-- its answer is taken whole, and what is sent of it is to be sent: the answer itself, or records
-- of it
pub record Seals (served : Talk) (old new : LockedConnectionOf) : Type 0 where
  pub sends : Sends served.pending old.called new.called new.output
  pub talk : new.talk ≡ Turns.after_sent served (length served.pending)
  pub fed : new.starved ≡ old.starved

abbrev pub Answers : Talk → LockedConnectionOf → LockedConnectionOf → Type 0
Answers served old new = Loses served old new ⊎ Seals served old new

-- all that was let in is served: now a fault that is after it ends the connection
pub record RunsOut (old new : LockedConnectionOf) : Type 0 where
  pub free : IsFree old
  pub talk : Turns.RunsOut old.talk new.talk
  pub same : new ≡ record old { talk = new.talk }

-- no frame is begun
abbrev pub Rests : LockedConnectionOf → LockedConnectionOf → Type 0
Rests old new = ((IsFree old → ⊥) × (new ≡ old)) ⊎ RunsOut old new

-- a node, the other desks of its hall, and one of its guarded connections
pub record Moment (V U : Type 0) : Type 0 where
  pub node : V
  pub peers : U
  pub guard : LockedConnectionOf

abbrev pub moment : {V U : Type 0} → V → U → LockedConnectionOf → Moment V U
moment node peers guard = record { node = node; peers = peers; guard = guard }

-- the moment of the connection within, where it is so
abbrev pub within_at : {V U : Type 0} → Moment V U → Talk → Turns.Moment V U
within_at m talk = Turns.moment m.node m.peers talk

-- a turn in which a frame is begun, as far as the caller may ask, or none is, where another desk
-- differs so or none does
abbrev pub Advances : {V U : Type 0} → DeskOf V → PeersOf U → Option Difference → Bool
    → Moment V U → Moment V U → Type 0
Advances d p differs true a b =
    IsFree a.guard × (served : Talk) × Turns.Advances d p
    (permission_of a.guard.called.doors (caller_of a.guard.called)) differs true
    (within_at a a.guard.talk) (within_at b served) × Answers served a.guard b.guard
Advances d p differs false a b = (b.node ≡ a.node) × (b.peers ≡ a.peers) × Rests a.guard b.guard

-- ---- what is sent is taken

-- this many bytes of what was to be sent were taken
abbrev pub after_sent : LockedConnectionOf → ℕ → LockedConnectionOf
after_sent g count = record {
  called = g.called;
  talk = g.talk;
  output = drop count g.output;
  starved = g.starved;
}
