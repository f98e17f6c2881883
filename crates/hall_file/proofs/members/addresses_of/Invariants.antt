use Rattle.std.proofs.Common.{map, string_bytes}
use Rattle.hall_file.proofs.Desks.{AreRead}
use Rattle.hall_file.proofs.members.addresses_of.Given as goal

abbrev pub invariant-loop-item : goal.invariant-loop-item
invariant-loop-item l = AreRead l.items l.item-index (map string_bytes l.desks.items)
