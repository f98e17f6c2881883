use Rattle.std.proofs.Common.{◌≡◌, ◌++◌, length, map}
use Rattle.table_service.specs.Recents.{AreBy, recent_in, shown}
use Rattle.table_service.proofs.Newest.{still}
use Rattle.table_service.proofs.recents.recents_of.Given as goal

abbrev pub invariant-loop-later : goal.invariant-loop-later
invariant-loop-later l = record {
  count : l.count ≡ length l.outbox.list.items;
  items : map shown l.recents.items ++ still l.mirror l.outbox.list l.left l.later
      ≡ recent_in l.mirror l.outbox.list;
  by : AreBy l.mirror l.recents.items;
}
