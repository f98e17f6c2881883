use Rattle.wire.proofs.Faults.{fault_where_first}
use Rattle.wire.proofs.laws.first_fault.Goals as goal

pub returns : goal.returns
returns c = fault_where_first
