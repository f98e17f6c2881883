use Rattle.std.proofs.Common.{length}
use Rattle.store.proofs.schema.+have_no_key.Given as goal

abbrev pub decreases-have_no_key : goal.decreases-have_no_key
decreases-have_no_key l = length l.tables.now
