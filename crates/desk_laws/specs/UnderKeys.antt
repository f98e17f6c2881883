-- At a desk with a key: what needs one, and under which it came (the project's own).
use Rattle.std.specs.Prelude.{◌≡◌, ℕ, Bool, true, false, List, ◌∷◌, ◌++◌, length, Some, IsTrue}
use Rattle.std.specs.List.{flat_map}
use Rattle.connections.specs.Connections.{Served, begun_of}
use Rattle.guarded.specs.LockedLaw.{IsHallKey}
use Rattle.multiplex.specs.EachClient.{IsServedBehind}
use Rattle.seal.specs.{Records.AreBodies, Records.preface_of, Records.records, Streams.joined}
use Rattle.sealed.specs.{Admitting.comes_under, Sent.key_for, declared.callers.DeskKeys.DeskKeys}
use Rattle.sealed.specs.declared.callers.{Access.TheVariants.Locked, Holder.Holder}
use Rattle.serving.specs.Connection.{Begun, asked, frames_of}
use Rattle.serving.specs.declared.request.Request.{Request, TheVariants.Ticked, TheVariants.Stopped}
use Rattle.serving.specs.declared.request.Request.TheVariants.{Heard, Lagging, Learned, Entered}
use Rattle.store.specs.declared.home.Home.{Home}
use Rattle.wire.specs.Spelling.{spelling}

-- it changes something at the desk, or ends it: a command is entered, a Tick or a Stop is given, or
-- a message of another desk is delivered
abbrev pub needs_key : Request → Bool
needs_key (Entered e) = true
needs_key Ticked = true
needs_key Stopped = true
needs_key (Heard m) = true
needs_key (Lagging m) = true
needs_key (Learned run) = true
needs_key _ = false

-- and a key of the hall: all of these but entering and Ticks
abbrev pub needs_halls : Request → Bool
needs_halls Stopped = true
needs_halls (Heard m) = true
needs_halls (Lagging m) = true
needs_halls (Learned run) = true
needs_halls _ = false

-- What came is a client's preface, records whose tags fit under this key of the desk, numbered from
-- 0, and a rest; and in the bodies of these records is this frame, after those before it.
pub record IsUnderKey (locks : DeskKeys) (who : Holder) (server came : List ℕ)
    (earlier : List Begun) (one : Begun) : Type 0 where
  pub key : List ℕ
  pub held : key_for locks who ≡ Some key
  pub client : List ℕ
  pub bodies : List (List ℕ)
  pub rest : List ℕ
  pub more : List ℕ
  pub sixteen : length client ≡ 16
  pub whole : came ≡ preface_of client ++ (records (comes_under client server key) 0 bodies ++ rest)
  pub each : AreBodies 0 bodies
  pub inside : joined bodies ≡ flat_map spelling (frames_of earlier) ++ (spelling one.frame ++ more)

-- whose key it is; and where the frame needs a key of the hall, it is one
pub record CameUnderKey (locks : DeskKeys) (server came : List ℕ) (earlier : List Begun)
    (one : Begun) (r : Request) : Type 0 where
  pub who : Holder
  pub under : IsUnderKey locks who server came earlier one
  pub halls : IsTrue (needs_halls r) → IsHallKey locks under.key

-- The law, at a desk with a key, for each frame of a client that asks for something that needs a
-- key, and is served.
abbrev pub EachAsksUnderAKey : Type 0
EachAsksUnderAKey =
    (home : Home) (locks : DeskKeys) (server came sent : List ℕ) (earlier later : List Served)
    (one : Served) → IsServedBehind home (Locked locks) server came sent (earlier ++ one ∷ later)
    → IsTrue (needs_key (asked home one.one))
    → CameUnderKey locks server came (begun_of earlier) one.one (asked home one.one)
