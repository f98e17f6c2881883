use Rattle.std.proofs.Common.{length}
use Rattle.store.proofs.statements.+length_after_all.Given as goal

abbrev pub decreases-length_after_all : goal.decreases-length_after_all
decreases-length_after_all l = length l.changes.now
