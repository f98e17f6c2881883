-- What a desk is when it is opened (the project's own).
use Rattle.std.specs.Prelude.{List, []}
use Rattle.acceptor.specs.declared.{entry.Entry.Entry, stored.Stored.Stored}
use Rattle.proposer.specs.declared.role.Role.TheVariants.{Idle}
use Rattle.learner.specs.Desks.{Desk}

-- it has this in store, it is idle, and nothing waits
abbrev pub opened : Stored → List Entry → Desk
opened stored log = record { stored = stored; log = log; role = Idle; queue = []; seen = 0 }
