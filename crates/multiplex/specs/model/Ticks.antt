-- The Ticks that a desk gives itself, at one look.
use Rattle.std.specs.Prelude.{◌≡◌, ◌⊎◌, ℕ, Bool, false, Option, None, IsTrue, IsFalse}
use Rattle.answers.specs.declared.desk.Desk.{Ghosts as DeskOf}
use Rattle.serving.specs.{OwnTicks.sides_alone, declared.peers.Peers.Ghosts as PeersOf}
use Rattle.ticking.specs.Ticking.{Look, Ticking}
use Rattle.wire.specs.declared.values.Version.{Version}
use Rattle.multiplex.specs.Passing.{TicksBy, over_if, shown, ticks_after, ticks_at}
use Rattle.multiplex.specs.declared.{ends.ServingEnd.ServingEnd, own_ticks.OwnTicks.OwnTicks}

abbrev pub own_of : Option Ticking → Bool → OwnTicks
own_of ticker starved = record { ticker = ticker; starved = starved }

-- a node and the other desks of its hall
pub record Desks (V U : Type 0) : Type 0 where
  pub node : V
  pub peers : U

abbrev pub desks : {V U : Type 0} → V → U → Desks V U
desks node peers = record { node = node; peers = peers }

-- no Tick was due
pub record Waited {V U : Type 0} (l : Look) (over : Option ServingEnd) (old new : OwnTicks)
    (a b : Desks V U) : Type 0 where
  pub early : IsFalse (ticks_at old.ticker l)
  pub own : new ≡ ticks_after old l false
  pub goes_on : over ≡ None
  pub same : b ≡ a

-- a Tick was due, and taken
pub record HasTicked {V U : Type 0} (d : DeskOf V) (p : PeersOf U) (version : Version) (l : Look)
    (starved : Bool) (over : Option ServingEnd) (old new : OwnTicks) (a b : Desks V U)
    : Type 0 where
  pub due : IsTrue (ticks_at old.ticker l)
  pub tick : TicksBy starved (d.home_of a.node) (sides_alone d p version a.node a.peers)
      (sides_alone d p version b.node b.peers)
  pub own : new ≡ ticks_after old l starved
  pub ends : over ≡ over_if (d.seen b.node).is_down

-- the ticker was shown the desk at this moment, and a Tick was taken where one was due
abbrev pub MayTick : {V U : Type 0} → DeskOf V → PeersOf U → Version → ℕ → Option ServingEnd
    → OwnTicks → OwnTicks → Desks V U → Desks V U → Type 0
MayTick d p version now over old new a b =
    Waited (shown (d.seen a.node) now) over old new a b ⊎ ((starved : Bool) × HasTicked d p version
    (shown (d.seen a.node) now) starved over old new a b)
