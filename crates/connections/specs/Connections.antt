-- Many connections of one desk, each served by turns, in whatever order the turns come (the
-- project's own).
use Rattle.std.specs.Prelude.{◌≡◌, ◌≢◌, ◌⊎◌, ◌≤◌, ℕ, ◌+◌, ◌==◌, if◌then◌else◌, List, [], ◌∷◌, ◌++◌}
use Rattle.std.specs.{Prelude.length, Prelude.Option, Prelude.None, Prelude.Some, List.flat_map}
use Rattle.answers.specs.{declared.desk.Desk.Ghosts as DeskOf, Seen.Seen}
use Rattle.store.specs.declared.home.Home.{Home}
use Rattle.wire.specs.{declared.values.Version.Version, Spelling.spelling}
use Rattle.wire.specs.Stream.{Breaks, front, IsOfStream}
use Rattle.serving.specs.{declared.ends.ConnectionEnd.ConnectionEnd, Serving.Act, Turns.LeavesAt}
use Rattle.serving.specs.{Connection.AreBegun, Connection.Begun, Connection.sides, Turns.new_talk}
use Rattle.serving.specs.{Making.Makes, Making.Outside, Making.Way, Making.speaking, Turns.Talk}
use Rattle.serving.specs.TurnLaw.{Place, Turn, Turns, begun_in, handed_out, received}
use Rattle.serving.specs.declared.ends.ConnectionEnd.TheVariants as end

-- the connections of a desk by their numbers, what is seen of the node that serves them all, and
-- what is there beside
pub record Connections {V : Type 0} (way : Way V) : Type 0 where
  pub talks : ℕ → Talk
  pub seen : Seen
  pub outside : Outside way

-- one of them, by its number
abbrev pub place_of : {V : Type 0} → {way : Way V} → Connections way → ℕ → Place way
place_of a k = record { talk = a.talks k; seen = a.seen; outside = a.outside }

-- a turn of the connection that has this number
pub record TurnOf : Type 0 where
  pub number : ℕ
  pub turn : Turn

-- it is a turn of that connection, and each other connection is as before
pub record Goes {V : Type 0} {way : Way V} (t : TurnOf) (a b : Connections way) : Type 0 where
  pub turn : Turns t.turn (place_of a t.number) (place_of b t.number)
  pub others : (k : ℕ) → k ≢ t.number → b.talks k ≡ a.talks k

-- one turn after the other, of whichever connections
abbrev pub FollowEach : {V : Type 0} → {way : Way V} → Connections way → List TurnOf
    → Connections way → Type 0
FollowEach a [] b = a ≡ b
FollowEach {V} {way} a (t ∷ ts) b = (m : Connections way) × Goes t a m × FollowEach m ts b

-- the turns of one connection
abbrev pub turns_of : ℕ → List TurnOf → List Turn
turns_of k [] = []
turns_of k (t ∷ ts) = if t.number == k then t.turn ∷ turns_of k ts else turns_of k ts

-- ---- the frames that were begun, of all connections

-- a frame that was begun: of which connection, the how manieth of it, its answer, and how it leaves
-- the connection
pub record Served : Type 0 where
  pub number : ℕ
  pub one : Begun
  pub count : ℕ
  pub answer : List ℕ
  pub leaves : Option ConnectionEnd

-- what is seen of the node, and what is there beside
pub record Point {V : Type 0} (way : Way V) : Type 0 where
  pub seen : Seen
  pub outside : Outside way

abbrev pub point_of : {V : Type 0} → {way : Way V} → Connections way → Point way
point_of a = record { seen = a.seen; outside = a.outside }

-- The frames were served, one after the other, whichever connections they are of: each by the node
-- as the one before it left the node.
abbrev pub AreServedInTurn : {V : Type 0} → {way : Way V} → Home → Point way → List Served
    → Point way → Type 0
AreServedInTurn home a [] b = a ≡ b
AreServedInTurn {V} {way} home a (f ∷ fs) b =
    (m : Point way) × LeavesAt f.leaves home (sides a.seen (Some []) a.outside)
    (sides m.seen (Some f.answer) m.outside) f.one f.count × AreServedInTurn home m fs b

-- of the frames those of one connection
abbrev pub served_of : ℕ → List Served → List Served
served_of k [] = []
served_of k (f ∷ fs) = if f.number == k then f ∷ served_of k fs else served_of k fs

abbrev pub begun_of : List Served → List Begun
begun_of [] = []
begun_of (f ∷ fs) = f.one ∷ begun_of fs

abbrev pub answers_of : List Served → List ℕ
answers_of [] = []
answers_of (f ∷ fs) = f.answer ++ answers_of fs

-- they are counted from this number on
abbrev pub AreCounted : ℕ → List Served → Type 0
AreCounted n [] = Unit {0}
AreCounted n (f ∷ fs) = (f.count ≡ n) × AreCounted (n + 1) fs

-- ---- how a connection stands

-- each of these frames left its connection open
abbrev pub StayOpen : List Served → Type 0
StayOpen [] = Unit {0}
StayOpen (f ∷ fs) = (f.leaves ≡ None) × StayOpen fs

-- the last of these frames ended its connection so, and those before it left it open
pub record LastEnds (why : ConnectionEnd) (all earlier : List Served) (last : Served) : Type 0 where
  pub parts : all ≡ earlier ++ last ∷ []
  pub open_before : StayOpen earlier
  pub ends : last.leaves ≡ Some why

-- it ended after all its frames: by a fault that is after them, or for want of memory
abbrev pub EndsAfter : ConnectionEnd → List ℕ → Type 0
EndsAfter (end.Fault e) rest = (front rest ≡ Breaks e) × IsOfStream e
EndsAfter end.NoMemory rest = Unit {0}
EndsAfter _ rest = ⊥

-- the connection is open, or ended by its cause
abbrev pub EndsBy : Option ConnectionEnd → List Served → List ℕ → Type 0
EndsBy None all rest = StayOpen all
EndsBy (Some e) all rest =
    ((earlier : List Served) × (last : Served) × LastEnds e all earlier last)
    ⊎ (StayOpen all × EndsAfter e rest)

-- A connection, after turns in which these bytes came and these were taken, and of which these
-- frames were begun: what came is the frames, those that wait, and a rest. What was taken, and then
-- what is pending, are the answers to these frames, and to no others, in order.
pub record IsServedOf (home : Home) (came taken : List ℕ) (all : List Served) (rest : List ℕ)
    (talk : Talk) : Type 0 where
  pub at : talk.home ≡ home
  pub begins : AreBegun came (begun_of all) (flat_map spelling talk.waiting ++ rest)
  pub answered : taken ++ talk.pending ≡ answers_of all
  pub counted : AreCounted 1 all
  pub frames : talk.frames ≡ length all
  pub few : talk.frames ≤ 64
  pub ends : EndsBy talk.end all rest

-- ---- the laws

-- calls and pushes that lead from the one point to the other
abbrev pub MakesSome : {V : Type 0} → {way : Way V} → ℕ → Point way → Point way → Type 0
MakesSome hall a b = (acts : List Act) × Makes hall a.outside b.outside acts

-- Of every list of turns of a desk's connections, from their first turns on: the frames begun are
-- served one after the other, whichever connections they are of. Each connection is answered what
-- its own frames come to, and nothing else: they are those that its turns began, in order.
abbrev pub EachIsServed : {V : Type 0} → DeskOf V → Type 0
EachIsServed d =
    (home : Home) (wire : Version) (turns : List TurnOf)
    (a b : Connections (speaking d.handles d.settles wire))
    → ((k : ℕ) → a.talks k ≡ new_talk home wire) → FollowEach a turns b
    → (frames : List Served) × AreServedInTurn home (point_of a) frames (point_of b) × MakesSome
    home.hall (point_of a) (point_of b) × ((k : ℕ)
    → (rest : List ℕ) × IsServedOf home (received (turns_of k turns))
    (handed_out (turns_of k turns)) (served_of k frames) rest (b.talks k)
    × (begun_of (served_of k frames) ≡ begun_in (turns_of k turns)))

-- the turns of the other connections
abbrev pub without : ℕ → List TurnOf → List TurnOf
without k [] = []
without k (t ∷ ts) = if t.number == k then without k ts else t ∷ without k ts

-- all but one of the connections are the same, and so is what serves them
pub record IsSameBut {V : Type 0} {way : Way V} (k : ℕ) (a b : Connections way) : Type 0 where
  pub talks : (j : ℕ) → j ≢ k → b.talks j ≡ a.talks j
  pub seen : b.seen ≡ a.seen
  pub outside : b.outside ≡ a.outside

-- A connection from which no byte came is handed none, and changes nothing: the turns of the others
-- alone, in the same order, leave the node, the other desks and each other connection the same.
abbrev pub SilenceChangesNothing : {V : Type 0} → DeskOf V → Type 0
SilenceChangesNothing d =
    (home : Home) (wire : Version) (turns : List TurnOf)
    (a b : Connections (speaking d.handles d.settles wire)) (k : ℕ)
    → ((j : ℕ) → a.talks j ≡ new_talk home wire) → FollowEach a turns b
    → received (turns_of k turns) ≡ []
    → (handed_out (turns_of k turns) ≡ []) × ((c : Connections (speaking d.handles d.settles wire))
    × FollowEach a (without k turns) c × IsSameBut k b c)
