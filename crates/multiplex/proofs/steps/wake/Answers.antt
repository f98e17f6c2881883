use Rattle.std.proofs.Common.{◌≡◌, None, [], arith, get_or, subst}
use Rattle.multiplex.{specs.model.Asking.WakesAll, proofs.Asked.asks_none, proofs.Asked.wakes_all}
use Rattle.polled.proofs.Telling.{Tells-nil}
use Rattle.multiplex.proofs.{Asked.wakes_one, Shutting.alters_both, Shutting.alters_none}
use Rattle.multiplex.proofs.steps.wake.Goals as goal

pub loop-guest-init : goal.loop-guest-init
loop-guest-init g c = record {
  told = λ home t.
      alters_none g.C.Sockets.happened home t c.args.table.now c.args.clients.now
      c.args.clients.now (Tells-nil (g.C.Sockets.happened c.args.clients.now));
  asks =
      asks_none g.C.Sockets.requests c.args.clients.now (WakesAll (g.D.Desk.home_of c.args.node.now)
      (g.D.Desk.seen c.args.node.now) c.args.table.now.time []) tt;
}

pub loop-guest-preserved : goal.loop-guest-preserved
loop-guest-preserved g c =
    let at = c.loop-guest in
    let table = c.args.table.now in
    record {
      told = λ home t.
          alters_both g.C.Sockets.happened home t None table table table c.args.clients.now
          at.clients c.wake_one.new.clients (at.invariant.told home t)
          (c.wake_one.ensures.told home t table);
      asks =
          wakes_one g.C.Sockets.requests c.args.clients.now at.clients c.wake_one.new.clients
          (g.D.Desk.home_of c.args.node.now) (g.D.Desk.seen c.args.node.now) table.time
          table.guests.items at.guest-index c.guest-item.result (omega arith)
          (subst (λ z. c.guest-item.result ≡ get_or z at.guest-index c.guest-item.result)
          c.deref-guest-items.ensures.value c.guest-item.is) at.invariant.asks
          c.wake_one.ensures.asks;
    }

pub returns-clause-told : goal.returns-clause-told
returns-clause-told g c = c.loop-guest.invariant.told

pub returns-clause-asks : goal.returns-clause-asks
returns-clause-asks g c =
    wakes_all g.C.Sockets.requests c.args.clients.now c.loop-guest.clients
    (g.D.Desk.home_of c.args.node.now) (g.D.Desk.seen c.args.node.now) c.args.table.now.time
    c.args.table.now.guests.items c.loop-guest.guest-index (omega arith) c.loop-guest.invariant.asks
