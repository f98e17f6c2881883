use Rattle.std.proofs.Common.{◌+◌}
use Rattle.mirror.specs.Mirrors.{AreHeldBelow}
use Rattle.mirror.proofs.mirror.Mirror.first_other.Given as goal

abbrev pub invariant-loop-place : goal.invariant-loop-place
invariant-loop-place l = AreHeldBelow (l.position + l.place) l.self l.position l.entries
