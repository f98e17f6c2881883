-- What holds of each client of many that were served side by side (the project's own).
use Rattle.std.specs.Prelude.{◌≡◌, ℕ, ◌==◌, Bool, true, false, if◌then◌else◌, List, [], ◌∷◌, ◌++◌}
use Rattle.std.specs.Prelude.{Option, None, Some, IsTrue}
use Rattle.answers.specs.{declared.desk.Desk.Ghosts as DeskOf, Seen.settled}
use Rattle.store.specs.declared.home.Home.{Home}
use Rattle.sealed.specs.declared.callers.Access.{Access, TheVariants.Locked}
use Rattle.sealed.specs.declared.callers.DeskKeys.{DeskKeys}
use Rattle.guarded.specs.LockedConnections.{LockedConnectionOf}
use Rattle.guarded.specs.LockedLaw.{IsGuardedStream, IsUnderHall, delivers}
use Rattle.serving.specs.Connection.{Sides, asked}
use Rattle.serving.specs.{Making.Way, Making.speaking, OwnTicks.unanswered}
use Rattle.connections.specs.Connections.{AreServedInTurn, IsServedOf, MakesSome, Point, Served}
use Rattle.connections.specs.Connections.{begun_of, served_of}
use Rattle.polled.specs.Happenings.{Happened, Round, Came, Full, Named, Gave, Took, Ended, Broke}
use Rattle.polled.specs.Happenings.{Closed, Failed}
use Rattle.multiplex.specs.Passing.{Changed, Clock, IsServedEach, Room, Settles, Step, Ticked}
use Rattle.multiplex.specs.Passing.{TicksBy, Visit, point_in, told_all}
use Rattle.multiplex.specs.declared.ends.ServingsOutcome.{ServingsOutcome}
use Rattle.multiplex.specs.declared.table.ServingOptions.{ServingOptions}

-- the bytes that a client gave, and those that it took, of all that happened
abbrev pub gave : ℕ → List Happened → List ℕ
gave k [] = []
gave k (Gave j bytes ∷ hs) = if j == k then bytes ++ gave k hs else gave k hs
gave k (Took j bytes ∷ hs) = gave k hs
gave k (Round time ∷ hs) = gave k hs
gave k (Came j random ∷ hs) = gave k hs
gave k (Full ∷ hs) = gave k hs
gave k (Named j ∷ hs) = gave k hs
gave k (Ended j ∷ hs) = gave k hs
gave k (Broke j ∷ hs) = gave k hs
gave k (Closed j ∷ hs) = gave k hs
gave k (Failed ∷ hs) = gave k hs

abbrev pub took : ℕ → List Happened → List ℕ
took k [] = []
took k (Took j bytes ∷ hs) = if j == k then bytes ++ took k hs else took k hs
took k (Gave j bytes ∷ hs) = took k hs
took k (Round time ∷ hs) = took k hs
took k (Came j random ∷ hs) = took k hs
took k (Full ∷ hs) = took k hs
took k (Named j ∷ hs) = took k hs
took k (Ended j ∷ hs) = took k hs
took k (Broke j ∷ hs) = took k hs
took k (Closed j ∷ hs) = took k hs
took k (Failed ∷ hs) = took k hs

-- ---- what was done

-- in order: a frame was begun, and served, a client's, or, where so, one of the desk to itself; or
-- the desk gave itself a Tick, for which memory was refused or was not; or what was done by then
-- was settled, or that failed
pub data Deed : Type 0 where
  Frame : Bool → Served → Deed
  OwnTick : Bool → Deed
  Settling : Bool → Deed

-- the frames of clients among these
abbrev pub frames_in : List Deed → List Served
frames_in [] = []
frames_in (Frame false f ∷ ds) = f ∷ frames_in ds
frames_in (Frame true f ∷ ds) = frames_in ds
frames_in (OwnTick starved ∷ ds) = frames_in ds
frames_in (Settling ok ∷ ds) = frames_in ds

-- the desk's own Ticks among these, and among steps
abbrev pub own_ticks : List Deed → List Bool
own_ticks [] = []
own_ticks (Frame own f ∷ ds) = own_ticks ds
own_ticks (OwnTick starved ∷ ds) = starved ∷ own_ticks ds
own_ticks (Settling ok ∷ ds) = own_ticks ds

abbrev pub ticks_of : List Step → List Bool
ticks_of [] = []
ticks_of (Changed c ∷ ss) = ticks_of ss
ticks_of (Clock now ∷ ss) = ticks_of ss
ticks_of (Ticked now starved ∷ ss) = starved ∷ ticks_of ss
ticks_of (Visit k turns fate ∷ ss) = ticks_of ss
ticks_of (Settles heard ok ∷ ss) = ticks_of ss

abbrev pub sides_at : {V : Type 0} → {way : Way V} → Point way → Sides way
sides_at p = unanswered p.seen p.outside

-- the node has settled, or that failed, and the other desks were handed nothing by that
abbrev pub SettlesTo : {V : Type 0} → {way : Way V} → Bool → Point way → Point way → Type 0
SettlesTo {V} {way} ok a b =
    (b.seen ≡ settled ok a.seen) × way.settles a.outside.node ok b.outside.node
    × (b.outside.handed ≡ a.outside.handed)

-- the one after the other, whichever clients the frames are of: each by the node as the one before
-- it left the node
abbrev pub AreDoneInTurn : {V : Type 0} → {way : Way V} → Home → Point way → List Deed → Point way
    → Type 0
AreDoneInTurn home a [] b = a ≡ b
AreDoneInTurn {V} {way} home a (Frame own f ∷ ds) b =
    (m : Point way) × AreServedInTurn home a (f ∷ []) m × AreDoneInTurn home m ds b
AreDoneInTurn {V} {way} home a (OwnTick starved ∷ ds) b =
    (m : Point way) × TicksBy starved home (sides_at a) (sides_at m) × AreDoneInTurn home m ds b
AreDoneInTurn {V} {way} home a (Settling ok ∷ ds) b =
    (m : Point way) × SettlesTo ok a m × AreDoneInTurn home m ds b

-- calls and pushes, with these settlings among them, that lead from the one point to the other
abbrev pub MakesBetween : {V : Type 0} → {way : Way V} → ℕ → Point way → List Bool → Point way
    → Type 0
MakesBetween hall a [] b = MakesSome hall a b
MakesBetween {V} {way} hall a (ok ∷ more) b =
    (m : Point way) × (n : Point way) × MakesSome hall a m × SettlesTo ok m n
    × MakesBetween hall n more b

-- the random bytes that were drawn for a client, if it came
abbrev pub came_with : ℕ → List Happened → Option (List ℕ)
came_with k [] = None
came_with k (Came j random ∷ hs) = if j == k then Some random else came_with k hs
came_with k (Gave j bytes ∷ hs) = came_with k hs
came_with k (Took j bytes ∷ hs) = came_with k hs
came_with k (Round time ∷ hs) = came_with k hs
came_with k (Full ∷ hs) = came_with k hs
came_with k (Named j ∷ hs) = came_with k hs
came_with k (Ended j ∷ hs) = came_with k hs
came_with k (Broke j ∷ hs) = came_with k hs
came_with k (Closed j ∷ hs) = came_with k hs
came_with k (Failed ∷ hs) = came_with k hs

-- ---- one client

-- A client that gave these bytes and took those, and of which these frames were begun. Its stream
-- was let in as the doors admit it, and the frames were served as far as the caller may ask: what
-- was let in are these frames, those that wait, and a rest. What it took, and then what was still
-- to be sent when its connection was ended, is the desk's preface, where there is one, and then
-- what is sent of the answers to these frames, in order, and of nothing else.
pub record IsServedBehind (home : Home) (doors : Access) (server came sent : List ℕ)
    (all : List Served) : Type 0 where
  pub guard : LockedConnectionOf
  pub handed : List ℕ
  pub answers : List ℕ
  pub rest : List ℕ
  pub stream : IsGuardedStream doors server guard came sent handed answers (begun_of all)
  pub served : IsServedOf home handed answers all rest guard.talk

-- and of one that never came nothing came
abbrev pub IsServedClient : Home → Access → Option (List ℕ) → List ℕ → List ℕ → List Served → Type 0
IsServedClient home doors None came sent all = (came ≡ []) × (sent ≡ []) × (all ≡ [])
IsServedClient home doors (Some server) came sent all =
    IsServedBehind home doors server came sent all

-- ---- the laws

-- Of every serving of many clients: the frames that were begun, those of the desk to itself too,
-- are served and the desk's own Ticks are taken one after the other, whichever clients the frames
-- are of, and the calls of all of them, with what is settled between them, lead from the first node
-- to the last. Each client is served what its own frames come to, as far as it may ask, and nothing
-- else.
abbrev pub EachClientIsServed : {V : Type 0} → DeskOf V → Type 0
EachClientIsServed d =
    (result : ServingsOutcome) (home : Home) (t : ServingOptions) (period : Option ℕ)
    (a b : Room (speaking d.handles d.settles t.wire)) (before after : Option (List Happened))
    (steps : List Step) → IsServedEach result home t period a b before after steps
    → (deeds : List Deed) × AreDoneInTurn home (point_in a) deeds (point_in b)
    × ((settlings : List Bool) × MakesBetween home.hall (point_in a) settlings (point_in b))
    × (own_ticks deeds ≡ ticks_of steps) × ((k : ℕ)
    → IsServedClient home t.doors (came_with k (told_all steps)) (gave k (told_all steps))
    (took k (told_all steps)) (served_of k (frames_in deeds)))

-- At a desk with a key, each frame of a client that delivers a message is in records that fit under
-- one of the hall's keys, of what the client gave.
abbrev pub EachDeliversUnderHall : Type 0
EachDeliversUnderHall =
    (home : Home) (locks : DeskKeys) (server came sent : List ℕ) (earlier later : List Served)
    (one : Served) → IsServedBehind home (Locked locks) server came sent (earlier ++ one ∷ later)
    → IsTrue (delivers (asked home one.one))
    → IsUnderHall locks server came (begun_of earlier) one.one

-- without a period the desk never gives itself a Tick
abbrev pub TicksNeedAPeriod : {V : Type 0} → DeskOf V → Type 0
TicksNeedAPeriod d =
    (result : ServingsOutcome) (home : Home) (t : ServingOptions)
    (a b : Room (speaking d.handles d.settles t.wire))
    (before after : Option (List Happened)) (steps : List Step)
    → IsServedEach result home t None a b before after steps → ticks_of steps ≡ []
