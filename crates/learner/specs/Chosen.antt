-- When an entry is chosen at a position: "a value is chosen when a single proposal with that value
-- has been accepted by a majority of the acceptors" ('Paxos Made Simple', section 2.2).
use Rattle.std.specs.Prelude.{ℕ, ◌≡◌, ◌<◌, ◌*◌, ◌⊎◌, List, [], ◌∷◌, length}
use Rattle.acceptor.specs.declared.{ballot.Ballot.Ballot, entry.Entry.Entry}
use Rattle.acceptor.specs.{declared.message.Message.Message, Messages.Sent}
use Rattle.acceptor.specs.declared.message.Body.TheVariants.{Accept, Accepted}
use Rattle.learner.specs.Steps.{IsDesk}

-- the number is in the list
abbrev pub Has : List ℕ → ℕ → Type 0
Has [] d = ⊥
Has (x ∷ xs) d = (x ≡ d) ⊎ Has xs d

abbrev pub IsDistinct : List ℕ → Type 0
IsDistinct [] = Unit {0}
IsDistinct (x ∷ xs) = ¬ Has xs x × IsDistinct xs

-- distinct desks of n, more than half of them
pub record IsMajority (n : ℕ) (desks : List ℕ) : Type 0 where
  pub distinct : IsDistinct desks
  pub ours : (d : ℕ) → Has desks d → IsDesk n d
  pub many : n < 2 * length desks

-- each of a majority of n desks has sent Accepted
pub record IsAccepted (n : ℕ) (sent : List Message) (ballot : Ballot) (pos : ℕ) : Type 0 where
  pub desks : List ℕ
  pub majority : IsMajority n desks
  pub each : (d : ℕ) → Has desks d → Sent sent d (Accepted ballot pos)

-- for one ballot there is an Accept with the entry, and Accepted from a majority
pub record IsChosen (n : ℕ) (sent : List Message) (pos : ℕ) (entry : Entry) : Type 0 where
  pub ballot : Ballot
  pub by : ℕ
  pub asked : Sent sent by (Accept ballot pos entry)
  pub accepted : IsAccepted n sent ballot pos
