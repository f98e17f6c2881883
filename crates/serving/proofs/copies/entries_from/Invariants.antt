use Rattle.std.proofs.Common.{◌≡◌, ◌-◌, take, drop}
use Rattle.serving.proofs.copies.entries_from.Given as goal

abbrev pub invariant-loop-pos : goal.invariant-loop-pos
invariant-loop-pos l = l.entries ≡ take (l.pos - l.position) (drop l.position l.log.entries)
