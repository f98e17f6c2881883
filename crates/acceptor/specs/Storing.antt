-- What a desk keeps in stable storage ('Paxos Made Simple', section 2.5), and what a change leaves
-- there.
use Rattle.std.specs.Prelude.{List, [], ◌∷◌, ◌++◌, Option, Some, None}
use Rattle.acceptor.specs.declared.{entry.Entry.Entry, stored.Stored.Stored, stored.Change.Change}
use Rattle.acceptor.specs.declared.stored.Change.TheVariants.{Promised, Voted, Tried, Appended}
use Rattle.acceptor.specs.Ballots.{no_ballot}

-- before the first event
abbrev pub first_stored : Stored
first_stored = record { promised = no_ballot; vote = None; tried = 0 }

-- a vote also promises its ballot
abbrev pub stored_after : Stored → Option Change → Stored
stored_after s None = s
stored_after s (Some (Promised b)) = record { promised = b; vote = s.vote; tried = s.tried }
stored_after s (Some (Voted v)) = record { promised = v.ballot; vote = Some v; tried = s.tried }
stored_after s (Some (Tried r)) = record { promised = s.promised; vote = s.vote; tried = r }
stored_after s (Some (Appended e)) = s

-- only an appended entry changes the log
abbrev pub log_after : List Entry → Option Change → List Entry
log_after log (Some (Appended e)) = log ++ e ∷ []
log_after log _ = log
