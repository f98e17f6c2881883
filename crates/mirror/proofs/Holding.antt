-- Entries put one after the other.
use Rattle.std.proofs.Common.{◌≡◌, List, ◌++◌}
use Rattle.acceptor.specs.declared.entry.Entry.{Entry}

-- held are the entries of before, and then the first of some, of which these are left
pub record IsPutting (before all held left : List Entry) : Type 0 where
  pub got : List Entry
  pub holds : held ≡ before ++ got
  pub parts : got ++ left ≡ all
