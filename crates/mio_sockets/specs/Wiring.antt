-- The other desks of a hall, and how the link to one is driven over its connection (the project's
-- own).
use Rattle.std.specs.Prelude.{◌≡◌, ◌≢◌, ◌⊎◌, ℕ, ◌+◌, ◌^◌, ◌-◌, ◌==◌, min, List, [], ◌∷◌, ◌++◌, map}
use Rattle.std.specs.Prelude.{Option, None, Some, Bool}
use Rattle.std.specs.{List.AllByRecursion, declared.net.SocketAddr.SocketAddr}
use Rattle.desk_sockets.specs.Wires.{Began, Closed, Wired, took}
use Rattle.links.specs.Links.{LinkState, Pushes, new_link}
use Rattle.links.specs.{Histories.Step, Histories.Steps, Outages.Telling, Outages.new_telling}
use Rattle.links.specs.declared.stages.PushOutcome.TheVariants as push
use Rattle.links.specs.Histories as step

-- ---- one other desk

-- its number, its address, its link, what is told of it, and how many frames to it were dropped
-- because memory was refused or they had no bytes
pub record Line : Type 0 where
  pub desk : ℕ
  pub address : SocketAddr
  pub link : LinkState
  pub telling : Telling
  pub lost : ℕ

abbrev pub line : ℕ → SocketAddr → LinkState → Telling → ℕ → Line
line desk address link telling lost = record {
  desk = desk;
  address = address;
  link = link;
  telling = telling;
  lost = lost;
}

abbrev pub new_line : ℕ → SocketAddr → Line
new_line desk address = line desk address new_link new_telling 0

-- a desk that has an address
abbrev pub lines_at : ℕ → Option SocketAddr → List Line
lines_at n None = []
lines_at n (Some address) = new_line n address ∷ []

-- the desks that have an address, from this number on
abbrev pub lines_from : ℕ → List (Option SocketAddr) → List Line
lines_from n [] = []
lines_from n (None ∷ addresses) = lines_from (n + 1) addresses
lines_from n (Some address ∷ addresses) =
    new_line n address ∷ lines_from (n + 1) addresses

-- another desk, its connection, and where that leads
pub record NeighbourOf (W : Type 0) : Type 0 where
  pub line : Line
  pub wire : W
  pub addresses : List (Option SocketAddr)

abbrev pub neighbour : {W : Type 0} → Line → W → List (Option SocketAddr) → NeighbourOf W
neighbour line wire addresses = record { line = line; wire = wire; addresses = addresses }

abbrev pub lines_of : {W : Type 0} → List (NeighbourOf W) → List Line
lines_of neighbours = map (λ n. n.line) neighbours

abbrev pub has_number : {W : Type 0} → ℕ → NeighbourOf W → Bool
has_number desk n = n.line.desk == desk

-- ---- a frame is pushed

-- it waits in the link, and for it the oldest frame of which nothing was sent was dropped, where as
-- many waited as may wait
abbrev pub WaitsIn : List ℕ → LinkState → LinkState → Type 0
WaitsIn frame a b = Pushes push.Waits frame a b ⊎ Pushes push.DroppedOldest frame a b

-- it waits in the link, or was dropped, which is counted
pub record Waits (frame : List ℕ) (a b : Line) : Type 0 where
  pub pushed : WaitsIn frame a.link b.link
  pub lost : b.lost ≡ a.lost

pub record IsLost (a b : Line) : Type 0 where
  pub link : b.link ≡ a.link
  pub lost : b.lost ≡ min (a.lost + 1) (2 ^ 64 - 1)

pub record IsSameDesk (a b : Line) : Type 0 where
  pub desk : b.desk ≡ a.desk
  pub address : b.address ≡ a.address

abbrev pub TakesFrame : List ℕ → Line → Line → Type 0
TakesFrame frame a b =
    IsSameDesk a b × (b.telling ≡ a.telling) × (Waits frame a b ⊎ IsLost a b)

-- ---- a link is driven

-- a call of the link other than a push
abbrev pub Drives : Step → LinkState → LinkState → Type 0
Drives (step.Push frame answer) a b = ⊥
Drives s a b = Steps s a b

abbrev pub Goes : LinkState → List Step → LinkState → Type 0
Goes a [] b = a ≡ b
Goes a (s ∷ ss) b = (m : LinkState) × Drives s a m × Goes m ss b

-- What is told of the connection to a desk at an address where its link was called so: each is
-- begun at the desk's address, takes the bytes that the link says are sent, and is closed once it
-- failed, ended or is closed by the link's wish.
abbrev pub told : SocketAddr → Step → List Wired
told address (step.Push frame answer) = []
told address (step.Began now) = Began address ∷ []
told address (step.Opened now) = []
told address (step.Sent now bytes) = took bytes
told address _ = Closed ∷ []

abbrev pub told_all : SocketAddr → List Step → List Wired
told_all address [] = []
told_all address (s ∷ ss) = told address s ++ told_all address ss

-- ---- a frame goes to its desk

-- the frame is given to the link of its desk, whose connection stays
pub record PushedAt {W : Type 0} (to : ℕ) (frame : List ℕ) (old new : List (NeighbourOf W))
    : Type 0 where
  pub before : List (NeighbourOf W)
  pub after : List (NeighbourOf W)
  pub a : NeighbourOf W
  pub b : NeighbourOf W
  pub was : old ≡ before ++ a ∷ after
  pub is : new ≡ before ++ b ∷ after
  pub to_it : a.line.desk ≡ to
  pub takes : TakesFrame frame a.line b.line
  pub wire : b.wire ≡ a.wire

-- where the desk has an address; the other links stay
abbrev pub PushesTo : {W : Type 0} → ℕ → List ℕ → List (NeighbourOf W) → List (NeighbourOf W)
    → Type 0
PushesTo to frame old new =
    PushedAt to frame old new ⊎ (AllByRecursion (λ n. n.line.desk ≢ to) old × (new ≡ old))
