use Rattle.seal_laws.proofs.Colliding.{back_is, keys_tell, macs_tell, stops_unless}
use Rattle.seal_laws.proofs.laws.replays_stop_or_collide.Goals as goal

pub returns-clause-macs : goal.returns-clause-macs
returns-clause-macs c = macs_tell

pub returns-clause-keys : goal.returns-clause-keys
returns-clause-keys c = keys_tell

pub returns-clause-records : goal.returns-clause-records
returns-clause-records c = stops_unless

pub returns-clause-example : goal.returns-clause-example
returns-clause-example c = back_is
