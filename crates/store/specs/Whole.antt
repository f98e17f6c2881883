-- A desk's row and its log, with each field in the range of its column (the project's own).
use Rattle.std.specs.Prelude.{◌<◌, ◌≤◌, ◌^◌, List, length, Option, Some, None}
use Rattle.std.specs.List.{AllByRecursion}
use Rattle.acceptor.specs.Entries.{IsId, IsText}
use Rattle.acceptor.specs.declared.{entry.Entry.Entry, stored.Vote.Vote, stored.Stored.Stored}
use Rattle.store.specs.declared.home.Home.{Home}
use Rattle.store.specs.Ranges.{IsHome, StoredIsFit, most_entries}

-- the position and the number are of 32 bits, the desk of 8, and the entry is one
abbrev pub VoteIsWhole : Option Vote → Type 0
VoteIsWhole None = Unit {0}
VoteIsWhole (Some v) =
    (v.pos < 2 ^ 32) × (v.ballot.number < 2 ^ 32) × (v.ballot.desk < 256) × IsId v.entry.id
    × IsText v.entry.text

-- the hall and the ballot numbers are of 32 bits, and the desks of 8
pub record IsWhole (home : Home) (s : Stored) : Type 0 where
  pub hall : home.hall < 2 ^ 32
  pub desk : home.desk < 256
  pub desks : home.desks < 256
  pub number : s.promised.number < 2 ^ 32
  pub promised : s.promised.desk < 256
  pub tried : s.tried < 2 ^ 32
  pub vote : VoteIsWhole s.vote

-- each entry is one, and there are no more than a log may have
abbrev pub LogIsWhole : List Entry → Type 0
LogIsWhole log = AllByRecursion (λ e. IsId e.id × IsText e.text) log × (length log ≤ most_entries)

-- a desk's state and log with all of it in its ranges
pub record IsSound (home : Home) (s : Stored) (entries : List Entry) : Type 0 where
  pub place : IsHome home
  pub row : IsWhole home s
  pub stored : StoredIsFit home.desks s
  pub log : LogIsWhole entries
