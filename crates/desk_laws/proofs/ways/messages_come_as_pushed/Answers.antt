use Rattle.desk_laws.proofs.Coming.{come_as_pushed}
use Rattle.desk_laws.proofs.ways.messages_come_as_pushed.Goals as goal

pub returns : goal.returns
returns c = come_as_pushed
