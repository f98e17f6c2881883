use Rattle.desk_laws.proofs.{Message.serving_works, SmallLoops.loops_work}
use Rattle.desk_laws.proofs.example.a_message_comes.Goals as goal

pub returns-clause-serving : goal.returns-clause-serving
returns-clause-serving g c = serving_works _

pub returns-clause-loops : goal.returns-clause-loops
returns-clause-loops g c = loops_work _
