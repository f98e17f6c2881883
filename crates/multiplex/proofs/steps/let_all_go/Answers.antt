use Rattle.std.proofs.Common.{[], refl, arith}
use Rattle.multiplex.specs.declared.table.ClientTable.{ClientTable}
use Rattle.multiplex.proofs.Asked.{ends_all, ends_more, ends_none, none_left}
use Rattle.multiplex.proofs.Shutting.{empties_more, empties_same}
use Rattle.polled.proofs.Telling.{Tells-nil}
use Rattle.multiplex.proofs.steps.let_all_go.Goals as goal

pub loop-guest-init : goal.loop-guest-init
loop-guest-init g c = record {
  told = λ home t over. ([], refl, Tells-nil (g.C.Sockets.happened c.args.clients.now));
  asks = ends_none g.C.Sockets.requests c.args.clients.now c.args.table.now.guests.items;
}

pub loop-guest-preserved : goal.loop-guest-preserved
loop-guest-preserved g c =
    let table = c.loop-guest.table in
    let left : ClientTable =
    record {
      guests = c.pop.new.self;
      next = table.next;
      time = table.time;
      own = table.own;
      dear = table.dear;
      differs = table.differs;
      said = table.said;
    } in
    let requests = g.C.Sockets.requests in
    let gone = c.in-Some.guest in
    record {
      told = λ home t over.
          empties_more g.C.Sockets.happened home t over c.args.table.now table left gone
          c.end_last.new.guest.talk c.args.clients.now c.loop-guest.clients c.end_last.new.clients
          c.in-Some.ensures.items refl refl refl refl refl
          (c.loop-guest.invariant.told home t over) c.end_last.ensures.told;
      asks = ends_more requests c.args.clients.now c.loop-guest.clients c.end_last.new.clients
          c.args.table.now.guests.items table.guests.items c.pop.new.self.items gone
          c.in-Some.ensures.items c.loop-guest.invariant.asks c.end_last.ensures.asks;
    }

pub returns-clause-told : goal.returns-clause-told
returns-clause-told g c home t over =
    let table = c.loop-guest.table in
    empties_same g.C.Sockets.happened home t over c.args.table.now table (record {
      guests = c.pop.new.self;
      next = table.next;
      time = table.time;
      own = table.own;
      dear = table.dear;
      differs = table.differs;
      said = table.said;
    }) c.args.clients.now c.loop-guest.clients c.in_default.ensures.items refl refl refl refl refl
    (c.loop-guest.invariant.told home t over)

pub returns-clause-asks : goal.returns-clause-asks
returns-clause-asks g c =
    ends_all g.C.Sockets.requests c.args.clients.now c.loop-guest.clients
    c.args.table.now.guests.items c.loop-guest.table.guests.items (none_left
    c.loop-guest.table.guests.items
    (λ some. c.in_default.ensures.variant.1 (omega (arith, some, c.loop-guest.table.guests.ok.0))))
    c.loop-guest.invariant.asks
