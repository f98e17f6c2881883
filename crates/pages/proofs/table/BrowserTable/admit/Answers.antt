use Rattle.std.proofs.Common.{refl}
use Rattle.pages.specs.Musts.{Accepts, Admits, MakesRoom}
use Rattle.pages.proofs.Asked.{asks_both}
use Rattle.pages.proofs.table.BrowserTable.admit.Goals as goal

pub returns-clause-kept : goal.returns-clause-kept
returns-clause-kept g c = λ held. c.accept.ensures.kept (c.make_room.ensures.kept held)

pub returns-clause-asks : goal.returns-clause-asks
returns-clause-asks g c =
    let t = c.args.self.now in
    let mid = c.make_room.new.self in
    let new = c.accept.new.self in
    asks_both g.C.Sockets.requests t.sockets mid.sockets new.sockets (MakesRoom t mid)
    (Accepts mid new) (Admits t new) (λ xs ys h k. record {
      mid = mid;
      first = xs;
      room = h;
      next = c.make_room.ensures.same.next;
      time = c.make_room.ensures.time;
      more = ys;
      accepts = k;
      all = refl;
    }) c.make_room.ensures.asks c.accept.ensures.asks
