-- What the steps of the code leave.
use Rattle.std.specs.Prelude.{◌≡◌, ◌⊎◌, ℕ, ◌+◌, List, [], ◌∷◌, ◌++◌, length, Option, None, Some}
use Rattle.std.specs.Prelude.{Bool}
use Rattle.answers.specs.{declared.desk.Desk.Ghosts as DeskOf, Seen.Seen}
use Rattle.serving.specs.{declared.peers.Peers.Ghosts as PeersOf, Making.speaking}
use Rattle.guarded.specs.LockedConnections.{LockedConnectionOf, begun, fresh_locked_connection}
use Rattle.store.specs.declared.home.Home.{Home}
use Rattle.wire.specs.declared.{values.Version.Version, standing.Difference.Difference}
use Rattle.polled.specs.Telling.{Tells}
use Rattle.polled.specs.Happenings.{Happened, Closed, Named, Round}
use Rattle.multiplex.specs.Passing.{Change, Changes, Lobby, Pass, Room, Step, Takes, guest, lobby}
use Rattle.multiplex.specs.Passing.{over_by, over_settled, told, told_all, told_change}
use Rattle.multiplex.specs.{Silence.ready_after, Noting.first_notes, model.Ticks.Desks}
use Rattle.multiplex.specs.declared.{dear.DearTurns.DearTurns, table.ServingOptions.ServingOptions}
use Rattle.multiplex.specs.declared.ends.{ServingEnd.ServingEnd, EndReason.EndReason}
use Rattle.multiplex.specs.declared.table.{Guest.Guest, ClientTable.ClientTable}
use Rattle.multiplex.specs.{Scenes.Scene, Scenes.in_room, Scenes.scene, model.Ticks.desks}
use Rattle.multiplex.specs.model.Visiting.{Rests, Sends, Spot, TalksOn, ThenSettles, beside, spot}

abbrev pub lobby_of : ClientTable → Option ServingEnd → Lobby
lobby_of t over = lobby t.guests.items t.next t.time t.own t.dear.spent t.differs over

abbrev pub room_of : {V U C : Type 0} → (d : DeskOf V) → PeersOf U → (version : Version)
    → ClientTable → Option ServingEnd → Scene V U C → Room (speaking d.handles d.settles version)
room_of d p version t over s = in_room d p version (lobby_of t over) s

-- ---- one connection is ended

pub record Loses {C : Type 0} (happened : C → Option (List Happened)) (over : Option ServingEnd)
    (old new : ClientTable) (c later : C) (before after : List Guest) (gone : Guest) : Type 0 where
  pub found : old.guests.items ≡ before ++ gone ∷ after
  pub left : new.guests.items ≡ before ++ after
  pub next : new.next ≡ old.next
  pub time : new.time ≡ old.time
  pub own : new.own ≡ old.own
  pub dear : new.dear ≡ old.dear
  pub differs : new.differs ≡ old.differs
  pub ends : over ≡ over_by gone.talk.talk.end
  pub told : Tells (happened c) (happened later) (Closed gone.number ∷ [])

-- that of the client at this place
abbrev pub IsShut : {C : Type 0} → (C → Option (List Happened)) → ℕ → Option ServingEnd
    → ClientTable → ClientTable → C → C → Type 0
IsShut happened place over old new c later =
    (before : List Guest) × (after : List Guest) × (gone : Guest) × (length before ≡ place)
    × Loses happened over old new c later before after gone

-- ---- changes of which the node knows nothing

abbrev pub ChangeAll : Home → ServingOptions → Lobby → List Change → Lobby → Type 0
ChangeAll home t a [] b = a ≡ b
ChangeAll home t a (c ∷ cs) b = (m : Lobby) × Changes home t c a m × ChangeAll home t m cs b

abbrev pub told_changes : List Change → List Happened
told_changes [] = []
told_changes (c ∷ cs) = told_change c ++ told_changes cs

pub record Alters {C : Type 0} (happened : C → Option (List Happened)) (home : Home)
    (t : ServingOptions) (over : Option ServingEnd) (old new : ClientTable) (c later : C)
    (changes : List Change) : Type 0 where
  pub changed : ChangeAll home t (lobby_of old None) changes (lobby_of new over)
  pub told : Tells (happened c) (happened later) (told_changes changes)

-- these changes came, which are none where serving was over
abbrev pub AltersSome : {C : Type 0} → (C → Option (List Happened)) → Home → ServingOptions
    → Option ServingEnd → ClientTable → ClientTable → C → C → Type 0
AltersSome happened home t over old new c later =
    (changes : List Change) × Alters happened home t over old new c later changes

-- serving is over, and each connection is ended
abbrev pub Empties : {C : Type 0} → (C → Option (List Happened)) → Home → ServingOptions
    → ServingEnd → ClientTable → ClientTable → C → C → Type 0
Empties happened home t over old new c later =
    (changes : List Change) × ChangeAll home t (lobby_of old (Some over)) changes
    (lobby_of new (Some over)) × Tells (happened c) (happened later) (told_changes changes)

-- a client took what it takes of what was to be sent to it, and then its connection was ended
abbrev pub EndsLast : {C : Type 0} → (C → Option (List Happened)) → C → C → Guest
    → LockedConnectionOf → Type 0
EndsLast {C} happened c later g talk =
    (between : C) × (ok : Bool) × Sends happened g.number ok c between g.talk talk
    × Tells (happened between) (happened later) (Closed g.number ∷ [])

-- a client that came has a connection, or none for want of memory
pub record Welcomes {C : Type 0} (happened : C → Option (List Happened)) (home : Home)
    (t : ServingOptions) (random : List ℕ) (x : Seen) (old new : ClientTable)
    (c later : C) : Type 0 where
  pub next : new.next ≡ old.next + 1
  pub time : new.time ≡ old.time
  pub own : new.own ≡ old.own
  pub dear : new.dear ≡ old.dear
  pub differs : new.differs ≡ old.differs
  pub either : ((new.guests.items ≡ old.guests.items ++ guest old.next
      (fresh_locked_connection t.doors random home t.wire) (first_notes x) old.time ∷ []) × Tells
      (happened c) (happened later) []) ⊎ ((new.guests.items ≡ old.guests.items) × Tells
      (happened c) (happened later) (Closed old.next ∷ []))

-- ---- one client has its turns

-- the client stays the same but for its connection, and the time when it was ready
pub record IsHosted (time : ℕ) (old new : Guest) : Type 0 where
  pub number : new.number ≡ old.number
  pub ready : new.ready ≡ ready_after time (begun old.talk) (begun new.talk) old.ready

abbrev pub at_guest : {V U C : Type 0} → Scene V U C → Guest → Spot V U C
at_guest s g = spot s.node s.peers s.clients g.talk

-- whether a sheet or entries of the log were asked for and answered in the round, and how another
-- desk differs
pub record Turned : Type 0 where
  pub spent : Bool
  pub differs : Option Difference

abbrev pub turned : Bool → Option Difference → Turned
turned spent differs = record { spent = spent; differs = differs }

abbrev pub Hosts : {V U C : Type 0} → DeskOf V → PeersOf U → (C → Option (List Happened)) → ℕ
    → Option EndReason → Turned → Turned → Guest → Guest → Scene V U C → Scene V U C → Type 0
Hosts d p happened time fate spent later old new a b =
    IsHosted time old new × TalksOn d p happened old.number time fate
    (beside spent.spent old.notes spent.differs) (beside later.spent new.notes later.differs)
    (at_guest a old) (at_guest b new)

-- what these change is settled then
abbrev pub TalksThenSettles : {V U C : Type 0} → DeskOf V → PeersOf U
    → (C → Option (List Happened)) → Version → ℕ → Option EndReason → DearTurns → DearTurns
    → Option Difference → Option Difference → Guest → Guest → Scene V U C → Scene V U C → Type 0
TalksThenSettles d p happened version time fate dear later differs said old new a b =
    ThenSettles d p version (d.home_of a.node) fate (desks b.node b.peers) (λ served.
    TalksOn d p happened old.number time fate
    (beside dear.spent old.notes differs) (beside later.spent new.notes said)
    (at_guest a old) (at_guest (scene served.node served.peers b.clients) new))

abbrev pub HostsThenSettles : {V U C : Type 0} → DeskOf V → PeersOf U
    → (C → Option (List Happened)) → Version → ℕ → Option EndReason → DearTurns → DearTurns
    → Option Difference → Option Difference → Guest → Guest → Scene V U C → Scene V U C → Type 0
HostsThenSettles d p happened version time fate dear later differs said old new a b =
    ThenSettles d p version (d.home_of a.node) fate (desks b.node b.peers) (λ served.
    Hosts d p happened time fate (turned dear.spent differs) (turned later.spent said) old new
    a (scene served.node served.peers b.clients))

-- the step that a client is which was named as ready; all but its name is told
abbrev pub Answers : {V U C : Type 0} → DeskOf V → PeersOf U → (C → Option (List Happened)) → Home
    → ServingOptions → ℕ → Option ServingEnd → ClientTable → ClientTable → Scene V U C → Scene V U C
    → Type 0
Answers d p happened home t k over old new a b =
    (s : Step) × (more : List Happened) × (told s ≡ Named k ∷ more)
    × Takes home t s (room_of d p t.wire old None a) (room_of d p t.wire new over b)
    × Tells (happened a.clients) (happened b.clients) more

-- what it changed is settled then
abbrev pub AnswersThenSettles : {V U C : Type 0} → DeskOf V → PeersOf U
    → (C → Option (List Happened)) → Home → ServingOptions → ℕ → Option ServingEnd → ClientTable
    → ClientTable → Scene V U C → Scene V U C → Type 0
AnswersThenSettles {V} {U} d p happened home t k over old new a b =
    (served : Desks V U) × (ok : Bool) × (before : Option ServingEnd) × Answers d p happened home t
    k before old new a (scene served.node served.peers b.clients) × (over ≡ over_settled ok before)
    × Rests d p t.wire home ok served (desks b.node b.peers)

-- ---- steps

-- these steps were taken
pub record Steps {V U C : Type 0} (d : DeskOf V) (p : PeersOf U)
    (happened : C → Option (List Happened)) (home : Home) (t : ServingOptions)
    (over : Option ServingEnd)
    (old new : ClientTable) (a b : Scene V U C) (steps : List Step) : Type 0 where
  pub pass : Pass home t (room_of d p t.wire old None a) steps (room_of d p t.wire new over b)
  pub told : Tells (happened a.clients) (happened b.clients) (told_all steps)

abbrev pub Does : {V U C : Type 0} → DeskOf V → PeersOf U → (C → Option (List Happened)) → Home
    → ServingOptions → Option ServingEnd → ClientTable → ClientTable → Scene V U C → Scene V U C
    → Type 0
Does d p happened home t over old new a b =
    (steps : List Step) × Steps d p happened home t over old new a b steps

-- a round was over, which is told, and steps were taken
abbrev pub DoesRound : {V U C : Type 0} → DeskOf V → PeersOf U → (C → Option (List Happened)) → Home
    → ServingOptions → ℕ → Option ServingEnd → ClientTable → ClientTable → Scene V U C → Scene V U C
    → Type 0
DoesRound {V} {U} {C} d p happened home t now over old new a b =
    (c : C) → Tells (happened c) (happened a.clients) (Round now ∷ [])
    → Does d p happened home t over old new (scene a.node a.peers c) b
