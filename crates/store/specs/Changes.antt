-- What several changes leave, one after the other (the project's own).
use Rattle.std.specs.Prelude.{◌≡◌, List, [], ◌∷◌, Some}
use Rattle.acceptor.specs.declared.{entry.Entry.Entry, stored.Stored.Stored, stored.Change.Change}
use Rattle.acceptor.specs.Storing.{stored_after, log_after}

abbrev pub stored_after_all : Stored → List Change → Stored
stored_after_all s [] = s
stored_after_all s (c ∷ cs) = stored_after_all (stored_after s (Some c)) cs

abbrev pub log_after_all : List Entry → List Change → List Entry
log_after_all log [] = log
log_after_all log (c ∷ cs) = log_after_all (log_after log (Some c)) cs

-- the first state and log become the second ones by these changes
pub record Leads (changes : List Change) (t : Stored) (past : List Entry) (s : Stored)
    (more : List Entry) : Type 0 where
  pub stored : s ≡ stored_after_all t changes
  pub log : more ≡ log_after_all past changes
