-- What a contract sees of a desk that serves (the project's own).
use Rattle.std.specs.{Prelude.ℕ, Prelude.List, Prelude.Option, declared.io.Write.Ghosts as WriteOf}
use Rattle.answers.specs.declared.desk.Desk.{Ghosts as DeskOf}
use Rattle.wire.specs.declared.values.Version.{Version}
use Rattle.serving.specs.declared.ends.ServingOutcome.{ServingOutcome}
use Rattle.serving.specs.declared.{permission.Permission.Permission, peers.Peers.Ghosts as PeersOf}
use Rattle.serving.specs.declared.source.Source.{Ghosts as SourceOf}
use Rattle.serving.specs.Connection.{Begun, IsConnection, Reads, Sides, sides}
use Rattle.serving.specs.Making.{Outside, outside_of, speaking}

-- a node that serves, the desks of its hall, and the writer of its answers
pub record Line (V U X : Type 0) : Type 0 where
  pub node : V
  pub peers : U
  pub writer : X

abbrev pub line : {V U X : Type 0} → V → U → X → Line V U X
line node peers writer = record { node = node; peers = peers; writer = writer }

-- what is there beside what is seen of the node, where frames are pushed in this version
abbrev pub outside : {V U : Type 0} → (d : DeskOf V) → PeersOf U → (version : Version) → V → U
    → Outside (speaking d.handles d.settles version)
outside d p version node peers = outside_of (speaking d.handles d.settles version) node
    (p.handed peers)

-- what serving changes
abbrev pub sides_of : {V U X : Type 0} → (d : DeskOf V) → PeersOf U → WriteOf X
    → (version : Version) → Line V U X → Sides (speaking d.handles d.settles version)
sides_of d p w version l =
    sides (d.seen l.node) (w.contents l.writer) (outside d p version l.node l.peers)

-- how often a source was read from, and how many of these reads failed
abbrev pub reads_of : {S : Type 0} → SourceOf S → S → Reads
reads_of s source = record { count = s.reads source; failed = s.failed source }

-- a connection was served over a source
abbrev pub ServesSource : {V U X S : Type 0} → DeskOf V → PeersOf U → WriteOf X → SourceOf S
    → Version → Permission → ServingOutcome → Line V U X → Line V U X → S → S → Type 0
ServesSource d p w s version may result a b source left =
    (bytes : List ℕ) × (begun : List Begun) × (rest : List ℕ)
    × IsConnection may result (d.home_of a.node) (sides_of d p w version a)
    (sides_of d p w version b)
    bytes begun rest (s.remaining source) (s.remaining left) (reads_of s left)

-- a connection was served over a reader that had these bytes to give
abbrev pub ServesReader : {V U X : Type 0} → DeskOf V → PeersOf U → WriteOf X → Version
    → Permission → ServingOutcome → Line V U X → Line V U X → Option (List ℕ) → Type 0
ServesReader d p w version may result a b given =
    (left : Option (List ℕ)) × (reads : Reads) × (bytes : List ℕ) × (begun : List Begun)
    × (rest : List ℕ) × IsConnection may result (d.home_of a.node) (sides_of d p w version a)
    (sides_of d p w version b) bytes begun rest given left reads
