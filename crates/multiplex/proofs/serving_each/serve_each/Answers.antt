use Rattle.std.proofs.Common.{refl, ap, inr, ◌++◌}
use Rattle.multiplex.{specs.declared.dear.DearTurns.DearTurns, proofs.Shutting.lobby_same}
use Rattle.polled.proofs.Telling.{Tells-trans}
use Rattle.multiplex.proofs.Stepping.{serves_all, serves_none}
use Rattle.multiplex.proofs.serving_each.serve_each.Goals as goal

pub returns-in_default-clause-served : goal.returns-in_default-clause-served
returns-in_default-clause-served g c =
    serves_none g.D.Desk g.L.Peers g.C.Sockets.happened c.args.terms c.args.period
    c.args.node.now c.args.links.now c.args.clients.now

pub returns-clause-served : goal.returns-clause-served
returns-clause-served g c =
    let table = c.in-Ok.ensures.empty in
    let over = c.serve_rounds-over.result in
    serves_all g.D.Desk g.L.Peers g.C.Sockets.happened c.args.terms c.args.period over c.in-Ok.table
    c.serve_rounds-over.new.table c.let_all_go.new.table c.args.node.now
    c.serve_rounds-over.new.node c.args.links.now c.serve_rounds-over.new.links c.args.clients.now
    c.serve_rounds-over.new.clients c.let_all_go.new.clients (lobby_same table.0 table.1 table.2
    c.in-Ok.ensures.own (ap (λ (d : DearTurns). d.spent) c.in-Ok.ensures.dear)
    c.in-Ok.ensures.differs refl) c.serve_rounds-over.ensures.does
    (c.let_all_go.ensures.told (g.D.Desk.home_of c.args.node.now) c.args.terms over)
    c.let_all_go.ensures.empty

pub returns-clause-asks : goal.returns-clause-asks
returns-clause-asks g c =
    let table = c.in-Ok.ensures.empty in
    let until = c.serve_rounds-over.ensures.asks in
    let requests = g.C.Sockets.requests in
    let ends = c.let_all_go.ensures.asks in (
      until.0 ++ ends.0,
      Tells-trans (requests c.args.clients.now) (requests c.serve_rounds-over.new.clients)
          (requests c.let_all_go.new.clients) until.0 ends.0 until.1 ends.1,
      inr
          (record {
            before = c.in-Ok.table;
            fresh = (
              table.0,
              table.1,
              table.2,
              c.in-Ok.ensures.own,
              c.in-Ok.ensures.dear,
              c.in-Ok.ensures.differs,
            );
            after = c.serve_rounds-over.new.table;
            served = until.0;
            seen = g.D.Desk.seen c.serve_rounds-over.new.node;
            until = until.2;
            ends = ends.0;
            ended = ends.2;
            all = refl;
          }),
    )
