-- The turns of a connection, however its pieces are cut and its answers are taken (the project's
-- own).
use Rattle.std.specs.Prelude.{◌≡◌, ◌⊎◌, ◌≤◌, ◌<◌, ℕ, List, [], ◌∷◌, ◌++◌, length, Option, None}
use Rattle.std.specs.{Prelude.Some, List.flat_map}
use Rattle.answers.specs.{declared.desk.Desk.Ghosts as DeskOf, Seen.Seen}
use Rattle.wire.specs.{declared.values.Version.Version, Spelling.spelling}
use Rattle.wire.specs.Stream.{Breaks, front, IsOfStream}
use Rattle.store.specs.declared.home.Home.{Home}
use Rattle.serving.specs.{declared.ends.ConnectionEnd.ConnectionEnd, Turns.new_talk}
use Rattle.serving.specs.Connection.{Begun, AreBegun, Sides, sides, Serves, Closes, Fails}
use Rattle.serving.specs.Making.{Way, Outside, speaking}
use Rattle.serving.specs.Turns.{Talk, BeginsNext, LeavesAt, Receives, Rests, WantsRead, after_sent}
use Rattle.serving.specs.declared.ends.FrameEnd.TheVariants as close
use Rattle.serving.specs.declared.ends.ConnectionEnd.TheVariants as end
use Rattle.serving.specs.declared.ends.FrameFault.TheVariants as fault

-- a turn: a piece came, a frame was begun, none was, or these bytes of what was pending were taken
pub data Turn : Type 0 where
  Came : List ℕ → Turn
  Began : Begun → Turn
  Rested : Turn
  Took : List ℕ → Turn

-- a connection, what is seen of the node that serves it, and what is there beside
pub record Place {V : Type 0} (way : Way V) : Type 0 where
  pub talk : Talk
  pub seen : Seen
  pub outside : Outside way

-- what serving changes, where these bytes were taken of answers, or wait
abbrev pub sides_in : {V : Type 0} → {way : Way V} → Place way → List ℕ → Sides way
sides_in a answers = sides a.seen (Some answers) a.outside

-- node and desks are as before
pub record IsQuiet {V : Type 0} {way : Way V} (a b : Place way) : Type 0 where
  pub seen : b.seen ≡ a.seen
  pub outside : b.outside ≡ a.outside

-- what the contracts of `receive`, `advance` and `sent` say of a turn
abbrev pub Turns : {V : Type 0} → {way : Way V} → Turn → Place way → Place way → Type 0
Turns (Came piece) a b = WantsRead a.talk × Receives piece a.talk b.talk × IsQuiet a b
Turns (Began one) a b =
    BeginsNext a.talk b.talk one.frame
    × LeavesAt b.talk.end a.talk.home (sides_in a a.talk.pending) (sides_in b b.talk.pending) one
    b.talk.frames
Turns Rested a b = Rests a.talk b.talk × IsQuiet a b
Turns (Took bytes) a b =
    (a.talk.pending ≡ bytes ++ b.talk.pending) × (b.talk ≡ after_sent a.talk (length bytes))
    × IsQuiet a b

-- one turn after the other
abbrev pub Follow : {V : Type 0} → {way : Way V} → Place way → List Turn → Place way → Type 0
Follow a [] b = a ≡ b
Follow {V} {way} a (t ∷ ts) b = (m : Place way) × Turns t a m × Follow m ts b

-- the bytes that came, and those that were taken
abbrev pub came_in : Turn → List ℕ
came_in (Came piece) = piece
came_in _ = []

abbrev pub taken_in : Turn → List ℕ
taken_in (Took bytes) = bytes
taken_in _ = []

abbrev pub received : List Turn → List ℕ
received [] = []
received (t ∷ ts) = came_in t ++ received ts

abbrev pub handed_out : List Turn → List ℕ
handed_out [] = []
handed_out (t ∷ ts) = taken_in t ++ handed_out ts

-- the frames begun, in order
abbrev pub begun_at : Turn → List Begun
begun_at (Began one) = one ∷ []
begun_at _ = []

abbrev pub begun_in : List Turn → List Begun
begun_in [] = []
begun_in (t ∷ ts) = begun_at t ++ begun_in ts

-- How the frames begun leave a connection, with this after the frames: open, or ended by its cause.
-- Of the ends of a connection these come by turns.
abbrev pub Stands : {V : Type 0} → {way : Way V} → Option ConnectionEnd → Home → Sides way
    → Sides way → List Begun → List ℕ → ℕ → Type 0
Stands None home a b begun rest count = Serves home a b begun × (count < 64)
Stands (Some end.Stopped) home a b begun rest count = Closes close.Stopped home a b begun
Stands (Some end.Down) home a b begun rest count = Closes close.Down home a b begun
Stands (Some end.Frames) home a b begun rest count = Serves home a b begun × (count ≡ 64)
Stands (Some (end.Fault e)) home a b begun rest count =
    Serves home a b begun × (front rest ≡ Breaks e) × IsOfStream e
Stands (Some end.NoMemory) home a b begun rest count =
    Serves home a b begun ⊎ Fails fault.NoMemory home a b begun
Stands _ home a b begun rest count = ⊥

-- The bytes that came are the frames begun, those that wait, and a rest. What was taken of answers,
-- and then what is pending, is what the frames begun come to, in order. So are the calls and the
-- pushes, which lead from the first place to the last.
pub record AreServed {V : Type 0} {way : Way V} (home : Home) (a b : Place way)
    (bytes taken : List ℕ) (begun : List Begun) (rest : List ℕ) : Type 0 where
  pub begins : AreBegun bytes begun (flat_map spelling b.talk.waiting ++ rest)
  pub counted : b.talk.frames ≡ length begun
  pub few : b.talk.frames ≤ 64
  pub stands :
      Stands b.talk.end home (sides_in a []) (sides_in b (taken ++ b.talk.pending)) begun rest
      b.talk.frames

-- of every list of turns of a connection with a desk of a kind, from its first turn on: the frames
-- that these turns began are served
abbrev pub TurnsServe : {V : Type 0} → DeskOf V → Type 0
TurnsServe d =
    (home : Home) (wire : Version) (turns : List Turn)
    (a b : Place (speaking d.handles d.settles wire))
    → a.talk ≡ new_talk home wire → Follow a turns b → (begun : List Begun) × (rest : List ℕ)
    × AreServed home a b (received turns) (handed_out turns) begun rest × (begun ≡ begun_in turns)
