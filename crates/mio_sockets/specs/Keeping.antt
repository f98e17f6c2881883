-- What the links to the other desks come to once they were kept (the project's own).
use Rattle.std.specs.Prelude.{◌≡◌, ◌⊎◌, ◌<◌, ℕ, List, [], ◌∷◌, ◌++◌, Option}
use Rattle.polled.specs.Telling.{Tells}
use Rattle.links.specs.{Histories.Step, declared.stages.LinkStage.LinkStage}
use Rattle.links.specs.Links.{LinkState, wish_of}
use Rattle.links.specs.declared.stages.LinkStage.TheVariants.{Closed, Paused, Opening, Open}
use Rattle.desk_sockets.specs.Wires.{LooksIn, Wired}
use Rattle.mio_sockets.specs.{Linking.phase_of, Waiting.quiet_in}
use Rattle.mio_sockets.specs.Wiring.{Goes, IsSameDesk, NeighbourOf, told_all}
use Rattle.links.specs.declared.stages.LinkAction.TheVariants as wish

-- a connection failed at this moment, and a pause began
abbrev pub FailedAt : ℕ → LinkStage → Type 0
FailedAt now Closed = ⊥
FailedAt now (Paused since millis) = since ≡ now
FailedAt now (Opening since) = ⊥
FailedAt now (Open frames quiet) = ⊥

-- Nothing is to be done now; or a connection failed just now; or bytes wait that the connection
-- does not take, which was opened or took some less than three seconds ago.
abbrev pub IsSettled : ℕ → LinkState → Type 0
IsSettled now s =
    (wish_of s now ≡ wish.Rest)
    ⊎ (FailedAt now s.stage ⊎ ((wish_of s now ≡ wish.Write) × (quiet_in s.stage now < 3000)))

-- The link to a desk was kept at this moment: its connection was looked at, where one is open or
-- being opened; the link was driven over it, by calls that this is told of; and nothing is left to
-- be done now. The desk's number, its address and its count of lost frames stay.
pub record IsKept {W : Type 0} (wired : W → Option (List Wired)) (now : ℕ) (a b : NeighbourOf W)
    : Type 0 where
  pub same : IsSameDesk a.line b.line
  pub lost : b.line.lost ≡ a.line.lost
  pub looks : List Wired
  pub seen : LooksIn (phase_of a.line.link.stage) looks
  pub steps : List Step
  pub goes : Goes a.line.link steps b.line.link
  pub told : Tells (wired a.wire) (wired b.wire) (looks ++ told_all a.line.address steps)
  pub settled : IsSettled now b.line.link

-- each of them, in the order of the desks
abbrev pub AreKept : {W : Type 0} → (W → Option (List Wired)) → ℕ → List (NeighbourOf W)
    → List (NeighbourOf W) → Type 0
AreKept wired now [] [] = Unit {0}
AreKept wired now (a ∷ olds) (b ∷ news) = IsKept wired now a b × AreKept wired now olds news
AreKept wired now _ _ = ⊥
