use Rattle.desk_file.proofs.Marking.{freed_ok}
use Rattle.desk_file.proofs.mark.end_use.Goals as goal

pub returns-clause-free : goal.returns-clause-free
returns-clause-free g c = freed_ok c.put_byte.result _ c.put_byte.ensures.put
