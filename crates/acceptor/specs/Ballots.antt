-- Ballots, the proposal numbers of 'Paxos Made Simple', section 2.2. Each names the desk that makes
-- it, so no two desks share one (section 2.5).
use Rattle.std.specs.Prelude.{Bool, false, if◌then◌else◌, nat_lt, ◌==◌}
use Rattle.acceptor.specs.declared.ballot.Ballot.{Ballot}

-- ballots are ordered by number, and with one number by desk
abbrev pub is_below : Ballot → Ballot → Bool
is_below b c = if b.number == c.number then nat_lt b.desk c.desk else nat_lt b.number c.number

-- the same number, and the same desk
abbrev pub is_same : Ballot → Ballot → Bool
is_same b c = if b.number == c.number then b.desk == c.desk else false

-- below all real ballots
abbrev pub no_ballot : Ballot
no_ballot = record { number = 0; desk = 0 }
