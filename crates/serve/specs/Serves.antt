-- What a desk does that serves: the clients that it serves, and the file that it uses (the
-- project's own).
use Rattle.std.specs.Prelude.{◌≡◌, ◌⊎◌, ℕ, ◌+◌, ◌*◌, ◌-◌, ◌^◌, List, length, Option, None, Some}
use Rattle.std.specs.Prelude.{Result, Ok, Err, Bool, nat_le, ◌&&◌, if◌then◌else◌}
use Rattle.std.specs.Io.KnownBytes.{Appends, Keeps}
use Rattle.std.specs.declared.io.Write.{Ghosts as WriteOf}
use Rattle.sqlite.specs.Recovery.{Image}
use Rattle.lines.specs.Bytes.{AppendsPart}
use Rattle.polled.specs.Happenings.{Happened}
use Rattle.multiplex.specs.Passing.{IsServedEach, Lobby, Room, Step}
use Rattle.multiplex.specs.declared.ends.{ServingEnd.ServingEnd, ServingsOutcome.ServingsOutcome}
use Rattle.multiplex.specs.declared.table.ServingOptions.{ServingOptions}
use Rattle.replica.specs.{Handles.Handles, Settles.Settles, Nodes.NodeValue}
use Rattle.node.specs.Seeing.{seen_of}
use Rattle.serving.specs.Making.{Way, outside_of, speaking}
use Rattle.serving.specs.declared.peers.Peers.{Ghosts as PeersOf}
use Rattle.connections.specs.Connections.{Point}
use Rattle.store.specs.declared.{home.Home.Home, keeper.Keeper.Ghosts as KeeperOf}
use Rattle.wire.specs.declared.values.Version.{Version}
use Rattle.sealed.specs.declared.callers.Access.{Access}
use Rattle.serve.specs.Files.{IsOpenedOn, KeepsFor}
use Rattle.serve.specs.{Keys.AreDoors, Printing.output, declared.fault.ServeFault.ServeFault}
use Rattle.serve.specs.Printing.{Hinders, IsOfListener, Output, first_line, both_lines, home_of}
use Rattle.hall_file.specs.declared.service.Service.{Service}
use Rattle.multiplex.specs.declared.ends.ServingEnd.TheVariants as over
use Rattle.serve.specs.declared.fault.ServeFault.TheVariants as fault

-- how many clients may come: as many as were asked for, or, where that wasn't said, as many as can
-- be counted
abbrev pub most_of : Option ℕ → ℕ
most_of (Some most) = most
most_of None = 2 ^ 64 - 1

-- how the clients of a desk are served: at most as many come as were asked for, and each may be
-- silent for this many milliseconds, and for a second more, since the silence of a client counts
-- from the end of the round before it was ready, which may be a second ago; and this is asked of
-- each
abbrev pub terms_of : Service → Access → ServingOptions
terms_of s doors = record {
  wire = s.options.wire;
  most = most_of s.options.connections;
  patience = s.options.patience * 1000 + 1000;
  doors = doors;
}

-- the period of the desk's own Ticks, in milliseconds: a number from 100 to 60,000 that is asked
-- for
abbrev pub period_of : Option ℕ → Option ℕ
period_of None = None
period_of (Some n) = if nat_le 100 n && nat_le n 60000 then Some n else None

-- what came of the clients before and afterwards, where it is known
pub record Heard : Type 0 where
  pub old : Option (List Happened)
  pub new : Option (List Happened)

abbrev pub heard : Option (List Happened) → Option (List Happened) → Heard
heard old new = record { old = old; new = new }

-- a desk that is to serve: whose it is, how its clients are served, the period of its own Ticks,
-- how long its log is, the writer, and what came of its clients
pub record Turn : Type 0 where
  pub home : Home
  pub terms : ServingOptions
  pub period : Option ℕ
  pub len : ℕ
  pub out : Output
  pub heard : Heard

abbrev pub turn : Home → ServingOptions → Option ℕ → ℕ → Output → Heard → Turn
turn home terms period len o h =
    record { home = home; terms = terms; period = period; len = len; out = o; heard = h }

-- the desk with these clients
abbrev pub with_clients : {V : Type 0} → {way : Way V} → Lobby → Point way → Room way
with_clients l a = record { lobby = l; seen = a.seen; outside = a.outside }

-- clients were served side by side, to this end
abbrev pub HasServed : {V : Type 0} → {way : Way V} → ServingsOutcome → Turn → Point way → Point way
    → Type 0
HasServed served t a b =
    (first : Lobby) × (last : Lobby) × (steps : List Step)
    × IsServedEach served t.home t.terms t.period (with_clients first a) (with_clients last b)
    t.heard.old t.heard.new steps

-- this many clients were served to this end; for one of the desk's own Ticks memory was refused, or
-- for none
abbrev pub served_to : ℕ → ServingEnd → Bool → ServingsOutcome
served_to count over starved = record { connections = count; over = over; starved = starved }

-- clients were served to this end, and both lines were written
abbrev pub ServesTo : {V : Type 0} → {way : Way V} → ServingEnd → Turn → Point way → Point way
    → Type 0
ServesTo over t a b =
    (count : ℕ) × (starved : Bool) × HasServed (served_to count over starved) t a b
    × Appends t.out.old t.out.new (both_lines t.home t.len count)

-- the first line was cut off, and nobody was served; or the last one was
abbrev pub IsCutOff : {V : Type 0} → {way : Way V} → Turn → Point way → Point way → Type 0
IsCutOff t a b =
    ((a ≡ b) × (t.heard.old ≡ t.heard.new)
    × AppendsPart t.out.old t.out.new (first_line t.home t.len))
    ⊎ ((served : ServingsOutcome) × HasServed served t a b
    × AppendsPart t.out.old t.out.new (both_lines t.home t.len served.connections))

-- as many clients were served as were asked for, or one asked the desk to stop
abbrev pub Serves : {V : Type 0} → {way : Way V} → Turn → Point way → Point way → Type 0
Serves t a b = ServesTo over.All t a b ⊎ ServesTo over.Stopped t a b

-- what the end of serving says
abbrev pub ends_by : ServingEnd → Result (Unit {0}) ServeFault
ends_by over.All = Ok tt
ends_by over.Stopped = Ok tt
ends_by over.Down = Err fault.Down
ends_by over.Failed = Err fault.CannotListen
ends_by over.Tired = Err fault.CannotListen
ends_by over.NoMemory = Err fault.NoMemory

-- how serving ends by a fault
abbrev pub FailsServing : {V : Type 0} → {way : Way V} → ServeFault → Turn → Point way
    → Point way → Type 0
FailsServing fault.Down t a b = ServesTo over.Down t a b
FailsServing fault.CannotListen t a b = ServesTo over.Failed t a b ⊎ ServesTo over.Tired t a b
FailsServing fault.Write t a b = IsCutOff t a b
FailsServing fault.NoMemory t a b = ServesTo over.NoMemory t a b ⊎ IsCutOff t a b
FailsServing _ t a b = ⊥

-- of sockets nothing is said of what comes of clients
abbrev pub unheard : Heard
unheard = heard None None

-- what is known of a desk that serves as it is asked for, with a log of this length at first
abbrev pub turn_of : Service → Access → Home → ℕ → Output → Turn
turn_of s doors home len o = turn home (terms_of s doors) (period_of s.options.tick) len o unheard

-- a node, where nothing is said of what the other desks were handed
abbrev pub resting : {K : Type 0} → (k : KeeperOf K) → (wire : Version) → NodeValue K
    → Point (speaking (Handles k) (Settles k) wire)
resting k wire node = record {
  seen = seen_of node;
  outside = outside_of (speaking (Handles k) (Settles k) wire) node None;
}

-- The desk that was opened on these files served in this way, and asked of its clients what its
-- keys say: from its state at the opening, with the length of its log in the first line, to its
-- state at the end.
pub record IsRun {K : Type 0} (k : KeeperOf K) (files : Image) (s : Service) (o : Output)
    (Does : Turn → Point (speaking (Handles k) (Settles k) s.options.wire)
    → Point (speaking (Handles k) (Settles k) s.options.wire) → Type 0) : Type 0 where
  pub first : NodeValue K
  pub last : NodeValue K
  pub doors : Access
  pub keyed : AreDoors s doors
  pub opened : IsOpenedOn k s.options.making files (home_of s) first
  pub served : Does (turn_of s doors (home_of s) (length first.desk.log) o)
      (resting k s.options.wire first) (resting k s.options.wire last)

-- nothing was printed and nobody served, by this cause
pub record IsHindered (f : ServeFault) (s : Service) (o : Output) : Type 0 where
  pub cause : Hinders f s
  pub silent : Keeps o.old o.new

-- ---- what the calls leave

-- a node that serves, the other desks of its hall, its clients, and the writer of its lines
pub record Stage (K U C X : Type 0) : Type 0 where
  pub node : NodeValue K
  pub links : U
  pub clients : C
  pub writer : X

abbrev pub stage : {K U C X : Type 0} → NodeValue K → U → C → X → Stage K U C X
stage node links clients writer =
    record { node = node; links = links; clients = clients; writer = writer }

-- what is known of a node that served between these two
abbrev pub TellsOf : {K U C X : Type 0} → KeeperOf K → (C → Option (List Happened)) → WriteOf X
    → ServingOptions → Option ℕ → Stage K U C X → Stage K U C X → Turn
TellsOf k happened w terms period a b =
    turn (k.home_of a.node.keeper) terms period (length a.node.desk.log)
    (output (w.contents a.writer) (w.contents b.writer))
    (heard (happened a.clients) (happened b.clients))

-- the node, where frames are pushed in this version
abbrev pub resting_on : {K U C X : Type 0} → (k : KeeperOf K) → PeersOf U → (wire : Version)
    → Stage K U C X → Point (speaking (Handles k) (Settles k) wire)
resting_on k p wire x = record {
  seen = seen_of x.node;
  outside = outside_of (speaking (Handles k) (Settles k) wire) x.node (p.handed x.links);
}

-- the node served its clients, and printed both lines
abbrev pub ServesNode : {K U C X : Type 0} → KeeperOf K → PeersOf U
    → (C → Option (List Happened)) → WriteOf X → ServingOptions → Option ℕ → Stage K U C X
    → Stage K U C X → Type 0
ServesNode k p happened w terms period a b =
    Serves (TellsOf k happened w terms period a b) (resting_on k p terms.wire a)
    (resting_on k p terms.wire b)

-- it ended by this fault
abbrev pub FailsNode : {K U C X : Type 0} → KeeperOf K → PeersOf U
    → (C → Option (List Happened)) → WriteOf X → ServingOptions → Option ℕ → Stage K U C X
    → Stage K U C X → ServeFault → Type 0
FailsNode k p happened w terms period a b f =
    FailsServing f (TellsOf k happened w terms period a b) (resting_on k p terms.wire a)
    (resting_on k p terms.wire b)

-- what is known of a node that serves at its address
abbrev pub told_there : {K X : Type 0} → KeeperOf K → WriteOf X → Service → Access → NodeValue K
    → (before after : X) → Turn
told_there k w s doors node before after =
    turn_of s doors (k.home_of node.keeper) (length node.desk.log)
    (output (w.contents before) (w.contents after))

-- the node served at its address, and printed both lines
abbrev pub ServesThere : {K X : Type 0} → KeeperOf K → WriteOf X → Service → Access → NodeValue K
    → NodeValue K → (before after : X) → Type 0
ServesThere k w s doors first last before after =
    Serves (told_there k w s doors first before after) (resting k s.options.wire first)
    (resting k s.options.wire last)

-- it could not listen there, and nothing was printed; or it served, and ended by this fault
abbrev pub FailsThere : {K X : Type 0} → KeeperOf K → WriteOf X → Service → Access → NodeValue K
    → NodeValue K → (before after : X) → ServeFault → Type 0
FailsThere k w s doors first last before after f =
    (IsOfListener f × Keeps (w.contents before) (w.contents after))
    ⊎ FailsServing f (told_there k w s doors first before after) (resting k s.options.wire first)
    (resting k s.options.wire last)

-- the desk that was opened on these files served
abbrev pub RunsDesk : {K : Type 0} → KeeperOf K → Image → Service → Output → Type 0
RunsDesk k files s o = IsRun k files s o Serves

-- nothing was printed and nobody served; or the desk that was opened on these files served, and
-- ended by this fault
abbrev pub FailsDesk : {K : Type 0} → KeeperOf K → Image → Service → Output → ServeFault → Type 0
FailsDesk k files s o f = IsHindered f s o ⊎ IsRun k files s o (FailsServing f)

-- the same of the desk that this keeper keeps, whatever files it was opened on
abbrev pub RunsKept : {K : Type 0} → KeeperOf K → K → Service → Output → Type 0
RunsKept k keeper s o =
    (files : Image) → KeepsFor k s.options.making files (home_of s) keeper → RunsDesk k files s o

abbrev pub FailsKept : {K : Type 0} → KeeperOf K → K → Service → Output → ServeFault → Type 0
FailsKept k keeper s o f =
    (files : Image) → KeepsFor k s.options.making files (home_of s) keeper → FailsDesk k files s o f
