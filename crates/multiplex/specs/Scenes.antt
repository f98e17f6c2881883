-- Serving many clients, as a contract says it (the project's own).
use Rattle.std.specs.Prelude.{ℕ, List, Option}
use Rattle.answers.specs.declared.desk.Desk.{Ghosts as DeskOf}
use Rattle.serving.specs.{declared.peers.Peers.Ghosts as PeersOf, Making.speaking, Sessions.outside}
use Rattle.wire.specs.declared.values.Version.{Version}
use Rattle.polled.specs.Happenings.{Happened}
use Rattle.multiplex.specs.Passing.{IsServedEach, Lobby, Room, Step, empty_lobby, first_ticks}
use Rattle.multiplex.specs.declared.ends.ServingsOutcome.{ServingsOutcome}
use Rattle.multiplex.specs.declared.table.ServingOptions.{ServingOptions}

-- a node that serves, the other desks of its hall, and its clients
pub record Scene (V U C : Type 0) : Type 0 where
  pub node : V
  pub peers : U
  pub clients : C

abbrev pub scene : {V U C : Type 0} → V → U → C → Scene V U C
scene node peers clients = record { node = node; peers = peers; clients = clients }

-- what is seen of the node, with these clients, where frames are pushed in this version
abbrev pub in_room : {V U C : Type 0} → (d : DeskOf V) → PeersOf U → (version : Version)
    → Lobby → Scene V U C → Room (speaking d.handles d.settles version)
in_room d p version l s = record {
  lobby = l;
  seen = d.seen s.node;
  outside = outside d p version s.node s.peers;
}

-- clients were served side by side, from the first one to the end
abbrev pub Serves : {V U C : Type 0} → DeskOf V → PeersOf U → (C → Option (List Happened))
    → ServingOptions → Option ℕ → ServingsOutcome → Scene V U C → Scene V U C → Type 0
Serves d p happened t period result a b =
    (last : Lobby) × (steps : List Step) × IsServedEach result (d.home_of a.node) t period
    (in_room d p t.wire (empty_lobby (first_ticks (d.home_of a.node) period (d.seen a.node))) a)
    (in_room d p t.wire last b) (happened a.clients) (happened b.clients) steps
