use Rattle.std.proofs.Common.{◌≡◌, take}
use Rattle.store.proofs.copying.copy_log.Given as goal

abbrev pub invariant-loop-pos : goal.invariant-loop-pos
invariant-loop-pos l = l.copy.entries ≡ take l.pos l.log.entries
