-- Positions, log lengths, ballots and desk numbers in their ranges (the project's own).
use Rattle.std.specs.Prelude.{ℕ, ◌≡◌, ◌<◌, ◌≤◌, ⊤, IsTrue, length, List, [], ◌∷◌, Option, Some}
use Rattle.std.specs.Prelude.{None, Result, Ok, Err}
use Rattle.acceptor.specs.declared.{ballot.Ballot.Ballot, message.Message.Message, stored.Vote.Vote}
use Rattle.proposer.specs.declared.{role.Role.Role, fault.Refusal.Refusal}
use Rattle.proposer.specs.declared.role.Role.TheVariants.{Idle, Gathering, Proposing, Leading}
use Rattle.learner.specs.{Order.IsAtMost, Desks.Desk, Contents.DeskHolds}
use Rattle.learner.specs.Steps.{IsDesk, is_in_range, Done}

-- the message is from a desk of n to one of n, with its fields in their ranges
pub record IsInRange (n : ℕ) (m : Message) : Type 0 where
  pub from : IsDesk n m.from
  pub to : IsDesk n m.to
  pub body : IsTrue (is_in_range n m.body)

-- a ballot that a desk of the hall can have made
abbrev pub IsReal : ℕ → Ballot → Type 0
IsReal n b = (1 ≤ b.number) × IsDesk n b.desk

-- a role's position, where it has one, is the log's length, and the log has room for it
abbrev pub RoleIsPlaced : ℕ → Role → Type 0
RoleIsPlaced len Idle = Unit {0}
RoleIsPlaced len (Gathering b pos heard) = (pos ≡ len) × (len < 65536)
RoleIsPlaced len (Proposing b pos e heard) = (pos ≡ len) × (len < 65536)
RoleIsPlaced len (Leading b) = Unit {0}

-- a stored vote is at a position of a log, and no higher than the promise
abbrev pub VoteIsPlaced : Ballot → Option Vote → Type 0
VoteIsPlaced promised None = Unit {0}
VoteIsPlaced promised (Some v) = (v.pos < 65536) × IsAtMost v.ballot promised

-- the log is no longer than 65,536 entries, and the desk neither gathers promises nor proposes at a
-- full one; its vote is at a position of a log, and no higher than its promise; all its ballots are
-- real, but for the promise that it has at first
pub record DeskIsInRange (n : ℕ) (x : Desk) : Type 0 where
  pub log : length x.log ≤ 65536
  pub role : RoleIsPlaced (length x.log) x.role
  pub vote : VoteIsPlaced x.stored.promised x.stored.vote
  pub ballots : DeskHolds (λ e. ⊤) (λ b. IsReal n b) x

-- each of the messages is from desk d, and in range
abbrev pub AreInRange : ℕ → ℕ → List Message → Type 0
AreInRange n d [] = Unit {0}
AreInRange n d (m ∷ ms) = ((m.from ≡ d) × IsInRange n m) × AreInRange n d ms

-- the desk after a step, and what it sends
abbrev pub DoneIsInRange : ℕ → ℕ → Result Done Refusal → Type 0
DoneIsInRange n d (Ok r) = DeskIsInRange n r.desk × AreInRange n d r.messages
DoneIsInRange n d (Err why) = Unit {0}
