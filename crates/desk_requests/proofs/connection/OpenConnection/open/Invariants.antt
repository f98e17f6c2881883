use Rattle.std.specs.Prelude.{◌≡◌}
use Rattle.sealed.specs.ends.ClientStreams.{own_key}
use Rattle.desk_requests.proofs.connection.OpenConnection.open.Given as goal

abbrev pub invariant-loop-read : goal.invariant-loop-read
invariant-loop-read l = own_key l.self.call ≡ own_key l.fn.self.call
