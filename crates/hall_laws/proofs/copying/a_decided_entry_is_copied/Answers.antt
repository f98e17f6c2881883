use Rattle.hall_laws.specs.Memory.{memory}
use Rattle.hall_laws.proofs.{Calls.calls_are_happenings, HallCopied.copies_one_entry}
use Rattle.hall_laws.proofs.copying.a_decided_entry_is_copied.Goals as goal

pub returns : goal.returns
returns c = copies_one_entry (calls_are_happenings memory)
