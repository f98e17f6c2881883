use Rattle.dry_run.proofs.Told.{Tells}
use Rattle.dry_run.proofs.foretelling.foretell.Given as goal

abbrev pub invariant-loop-entry : goal.invariant-loop-entry
invariant-loop-entry l = Tells l.log.entries l.entries l.entry-index l.transcript l.answers.items
