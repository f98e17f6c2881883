-- A message of one desk to another, from a link to the desk that it is for, by hand: desk 1 of
-- three reports to desk 2 how long its log is, over a connection under the hall's key.
use Rattle.std.specs.Prelude.{◌≡◌, ℕ, false, List, [], ◌∷◌, ◌++◌, None, Some, Ok, IsTrue, map}
use Rattle.connections.specs.Connections.{Connections, FollowEach, Served, TurnOf}
use Rattle.guarded.specs.{LockedLaw.delivers, LockedConnections.fresh_locked_connection}
use Rattle.guarded.specs.LockedTurns.{Follow, Place}
use Rattle.learner.specs.Desks.{first_desk}
use Rattle.learner.specs.declared.event.DeskEvent.TheVariants.{Deliver}
use Rattle.multiplex.specs.{EachClient.IsServedBehind, declared.ends.EndReason.TheVariants.Ended}
use Rattle.multiplex.specs.Passing.{Changed, Comes, IsServedEach, Room, Step, Stops, Visit}
use Rattle.multiplex.specs.declared.ends.ServingEnd.TheVariants.{All as NoMore}
use Rattle.multiplex.specs.declared.ends.ServingsOutcome.{ServingsOutcome}
use Rattle.multiplex.specs.declared.table.ServingOptions.{ServingOptions}
use Rattle.replica.specs.{Handles.Handles, Settles.Settles, Stores.HoldsDesk}
use Rattle.seal.specs.Records.{preface_of, records}
use Rattle.seal_laws.specs.Keys.{AreRandom}
use Rattle.sealed.specs.Admitting.{comes_under}
use Rattle.sealed.specs.declared.callers.{Access.TheVariants.Locked, DeskKeys.DeskKeys}
use Rattle.serving.specs.{Connection.Begun, Making.speaking, Serving.Called, Turns.new_talk}
use Rattle.serving.specs.{Connection.asked, declared.permission.Permission.TheVariants.All}
use Rattle.serving.specs.TurnLaw.{Began, Came, Took, Turn}
use Rattle.store.specs.declared.keeper.Keeper.{Ghosts}
use Rattle.wire.specs.{Spelling.spelling, declared.values.Version.TheVariants.Two}
use Rattle.hall_laws.specs.HallExample.{KeepThree, said_frame, says, third_home, three_desks}
use Rattle.hall_laws.specs.{HallExample.tick_acts, HallExample.tick_frame, HallRuns.nodes_of}
use Rattle.desk_laws.specs.LoopRuns.{DoesAt, Doing, IsLoopRun, LoopStep}
use Rattle.desk_laws.specs.{UnderKeys.needs_key, Ways.IsWay}

-- one client is accepted
abbrev pub terms : DeskKeys → ServingOptions
terms locks = record { wire = Two; most = 1; patience = 30000; doors = Locked locks }

abbrev pub one : Begun
one = record { frame = said_frame; may = All; differs = None; fates = [] }

abbrev pub served : Served
served = record { number = 0; one = one; count = 1; answer = []; leaves = None }

-- the link's preface, and its one record
abbrev pub gives : DeskKeys → List ℕ → List ℕ → List ℕ
gives locks client server =
    preface_of client
    ++ records (comes_under client server locks.hall) 0 (spelling said_frame ∷ [])

-- it comes, the desk's preface is taken, and the frame is begun
abbrev pub turns : DeskKeys → List ℕ → List ℕ → List Turn
turns locks client server =
    Came (gives locks client server) ∷ Took (preface_of server) ∷ Began one ∷ []

-- the client comes, and ends its side; no more clients are accepted
abbrev pub steps : DeskKeys → List ℕ → List ℕ → List Step
steps locks client server =
    Changed (Comes 0 server) ∷ Visit 0 (turns locks client server) (Some Ended)
    ∷ Changed (Stops NoMore) ∷ []

abbrev pub result : ServingsOutcome
result = record { connections = 1; over = NoMore; starved = false }

-- the frame comes to a connection as it is, and is begun
abbrev pub plain_turns : List TurnOf
plain_turns =
    record { number = 0; turn = Came (spelling said_frame) }
    ∷ record { number = 0; turn = Began one } ∷ []

pub record WorksServing {K : Type 0} (k : Ghosts K) (locks : DeskKeys) (client server : List ℕ)
    : Type 0 where
  -- of one of many connections, of one with keys, and of a desk that serves clients
  pub plain_before : Connections (speaking (Handles k) (Settles k) Two)
  pub plain_after : Connections (speaking (Handles k) (Settles k) Two)
  pub plain_new : (j : ℕ) → plain_before.talks j ≡ new_talk (third_home 2) Two
  pub follows : FollowEach plain_before plain_turns plain_after
  pub place_before : Place (speaking (Handles k) (Settles k) Two)
  pub place_after : Place (speaking (Handles k) (Settles k) Two)
  pub fresh : place_before.guard ≡ fresh_locked_connection (Locked locks) server (third_home 2) Two
  pub guarded : Follow place_before (turns locks client server) place_after
  pub before : Room (speaking (Handles k) (Settles k) Two)
  pub after : Room (speaking (Handles k) (Settles k) Two)
  pub serves : IsServedEach result (third_home 2) (terms locks) None before after None None
      (steps locks client server)
  -- of what the client gave, and the link wrote
  pub behind : IsServedBehind (third_home 2) (Locked locks) server (gives locks client server)
      (preface_of server) (served ∷ [])
  pub delivered : IsTrue (delivers (asked (third_home 2) one))
  pub needed : IsTrue (needs_key (asked (third_home 2) one))
  pub way : locks.old ≡ false → IsWay locks server (gives locks client server) (said_frame ∷ [])

-- whatever keeps the desk's state, and whichever the keys and the random bytes are
abbrev pub ServingWorks : {K : Type 0} → Ghosts K → Type 0
ServingWorks {K} k =
    (keeper : K) (locks : DeskKeys) (client server : List ℕ)
    → k.home_of keeper ≡ third_home 2 → HoldsDesk k keeper first_desk → AreRandom client server
    → WorksServing k locks client server

-- ---- desks that serve by the loop

-- desk 1 makes a Tick, and says to the others how long its log is; desk 2 is given that
abbrev pub ticks : Doing
ticks = record {
  one = record { frame = tick_frame; may = All; differs = None; fates = [] };
  acts = tick_acts;
}

abbrev pub hears : Doing
hears = record { one = one; acts = Called (Deliver (says 2)) (Ok []) ∷ [] }

-- this is a run of three desks, whatever keeps their state
abbrev pub LoopsWork : {K : Type 0} → Ghosts K → Type 0
LoopsWork {K} k =
    (keeper : ℕ → K) → KeepThree k keeper → (steps : List (LoopStep K))
    × (map (λ (s : LoopStep K). s.event) steps ≡ DoesAt 1 ticks ∷ DoesAt 2 hears ∷ [])
    × IsLoopRun k 3 (nodes_of (three_desks keeper)) steps
