use Rattle.std.proofs.Common.{length}
use Rattle.standings.proofs.meaning.+difference.Given as goal

abbrev pub decreases-difference : goal.decreases-difference
decreases-difference l = length l.polled.now
