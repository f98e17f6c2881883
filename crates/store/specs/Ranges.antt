-- Which desks there are, and which states a store may hold (the project's own). What the types of
-- the fields say already (ballot numbers of 32 bits, an entry's id of 1 to 2^63 - 1 and its text of
-- at most 600 bytes) is not said again.
use Rattle.std.proofs.Common.{ℕ, ◌≡◌, ◌⊎◌, Bool, ◌&&◌, ◌||◌, ◌==◌, nat_le, ◌<◌, ◌≤◌, List, length}
use Rattle.std.proofs.Common.{Option, Some, None}
use Rattle.acceptor.specs.declared.{ballot.Ballot.Ballot, entry.Entry.Entry, stored.Vote.Vote}
use Rattle.acceptor.specs.{declared.stored.Stored.Stored, Ballots.no_ballot}
use Rattle.learner.specs.{Order.IsAtMost, Ranges.IsReal, Steps.IsDesk}
use Rattle.store.specs.declared.home.Home.{Home}

-- a desk of a hall of 3 or 5
pub record IsHome (home : Home) : Type 0 where
  pub desks : (home.desks ≡ 3) ⊎ (home.desks ≡ 5)
  pub desk : IsDesk home.desks home.desk

abbrev pub home_at : ℕ → ℕ → ℕ → Home
home_at hall desk desks = record { hall = hall; desk = desk; desks = desks }

-- the same as a test
abbrev pub is_housed : Home → Bool
is_housed home =
    (home.desks == 3 || home.desks == 5) && nat_le 1 home.desk && nat_le home.desk home.desks

-- the most entries that a log may have
abbrev pub most_entries : ℕ
most_entries = 65536

-- none, or at a position of a log, with a ballot of the hall that is at most the promised one
abbrev pub VoteIsFit : ℕ → Ballot → Option Vote → Type 0
VoteIsFit n promised None = Unit {0}
VoteIsFit n promised (Some v) =
    (v.pos < most_entries) × IsReal n v.ballot × IsAtMost v.ballot promised

-- the promised ballot is (0, 0) or of the hall, and the vote is in its ranges
abbrev pub StoredIsFit : ℕ → Stored → Type 0
StoredIsFit n s = ((s.promised ≡ no_ballot) ⊎ IsReal n s.promised) × VoteIsFit n s.promised s.vote

-- and the log is no longer than it may be
pub record IsFit (n : ℕ) (s : Stored) (log : List Entry) : Type 0 where
  pub stored : StoredIsFit n s
  pub long : length log ≤ most_entries
