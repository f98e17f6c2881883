use Rattle.std.proofs.Common.{inl, inr, refl}
use Rattle.desk_requests.specs.declared.fault.DeskFault.TheVariants as fault
use Rattle.lines.specs.declared.fault.RunFault.TheVariants as run
use Rattle.subcommands.proofs.folders.make_folders.Goals as goal

pub returns-in-Ok-write_text-clause-ends : goal.returns-in-Ok-write_text-clause-ends
returns-in-Ok-write_text-clause-ends g c = inl (refl, c.in-Ok-write_text.ensures.ok)

pub returns-in-Err-write_text-clause-ends : goal.returns-in-Err-write_text-clause-ends
returns-in-Err-write_text-clause-ends g c = inr (fault.Run run.Write, c.tell.ensures)
