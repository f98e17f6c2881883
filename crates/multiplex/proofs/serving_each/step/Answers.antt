use Rattle.polled.specs.declared.answers.Ready.TheVariants as ready_is
use Rattle.multiplex.specs.declared.ends.ServingEnd.TheVariants as over
use Rattle.multiplex.proofs.{Asked.musts_ask, Shutting.alters_both, Shutting.alters_none}
use Rattle.multiplex.proofs.Stepping.{does_answer, does_changes, does_stop}
use Rattle.multiplex.proofs.serving_each.step.Goals as goal

pub returns-in-Waits-clause-does : goal.returns-in-Waits-clause-does
returns-in-Waits-clause-does g c =
    let home = g.D.Desk.home_of c.args.node.now in
    let happened = g.C.Sockets.happened in
    let table = c.args.table.now in
    does_changes g.D.Desk g.L.Peers happened home c.args.terms c.admit.result table
    c.admit.new.table c.args.node.now c.args.links.now c.args.clients.now c.admit.new.clients
    (alters_both happened home c.args.terms c.admit.result table table c.admit.new.table
    c.args.clients.now c.ready.new.self c.admit.new.clients (alters_none happened home c.args.terms
    table c.args.clients.now c.ready.new.self c.in-Waits.ensures.told) c.admit.ensures.alters)

pub returns-in-Peer-clause-does : goal.returns-in-Peer-clause-does
returns-in-Peer-clause-does g c =
    does_answer g.D.Desk g.L.Peers g.C.Sockets.happened (g.D.Desk.home_of c.args.node.now)
    c.args.terms c.in-Peer.number c.visit.result c.args.table.now c.visit.new.table
    c.args.node.now c.visit.new.node c.args.links.now c.visit.new.links c.args.clients.now
    c.ready.new.self c.visit.new.clients c.in-Peer.ensures.told c.visit.ensures.answers

pub returns-in-Round-clause-does : goal.returns-in-Round-clause-does
returns-in-Round-clause-does g c =
    c.end_round.ensures.does c.args.clients.now c.in-Round.ensures.told

pub returns-in-Round-clause-kept : goal.returns-in-Round-clause-kept
returns-in-Round-clause-kept g c =
    c.end_round.ensures.kept (g.D.Desk.home_of c.args.node.now) c.args.terms.wire c.requires.kept

pub returns-in-Failed-clause-does : goal.returns-in-Failed-clause-does
returns-in-Failed-clause-does g c =
    does_stop g.D.Desk g.L.Peers g.C.Sockets.happened (g.D.Desk.home_of c.args.node.now)
    c.args.terms over.Failed c.args.table.now c.args.node.now c.args.links.now
    c.args.clients.now c.ready.new.self tt c.in-Failed.ensures.told

pub returns-in-Waits-clause-asks : goal.returns-in-Waits-clause-asks
returns-in-Waits-clause-asks g c =
    musts_ask g.C.Sockets.requests g.L.PeerLinks.due g.L.PeerLinks.kept c.args.terms
    (g.D.Desk.home_of c.args.node.now) (g.D.Desk.seen c.args.node.now) c.admit.result
    c.args.table.now c.admit.new.table c.args.links.now c.args.links.now c.args.clients.now
    c.ready.new.self c.admit.new.clients c.wait_of.result ready_is.Waits c.admit.ensures.asks.0
    c.wait_of.ensures c.in-Waits.ensures.requests c.admit.ensures.asks.1 c.admit.ensures.asks.2

pub returns-in-Peer-clause-asks : goal.returns-in-Peer-clause-asks
returns-in-Peer-clause-asks g c =
    musts_ask g.C.Sockets.requests g.L.PeerLinks.due g.L.PeerLinks.kept c.args.terms
    (g.D.Desk.home_of c.args.node.now) (g.D.Desk.seen c.visit.new.node) c.visit.result
    c.args.table.now c.visit.new.table c.args.links.now c.visit.new.links c.args.clients.now
    c.ready.new.self c.visit.new.clients c.wait_of.result (ready_is.Peer c.in-Peer.number)
    c.visit.ensures.asks.0 c.wait_of.ensures c.in-Peer.ensures.requests
    c.visit.ensures.asks.1 c.visit.ensures.asks.2

pub returns-in-Round-clause-asks : goal.returns-in-Round-clause-asks
returns-in-Round-clause-asks g c =
    musts_ask g.C.Sockets.requests g.L.PeerLinks.due g.L.PeerLinks.kept c.args.terms
    (g.D.Desk.home_of c.args.node.now) (g.D.Desk.seen c.end_round.new.node) c.end_round.result
    c.args.table.now c.end_round.new.table c.args.links.now c.end_round.new.links
    c.args.clients.now c.ready.new.self c.end_round.new.clients c.wait_of.result
    (ready_is.Round c.in-Round.now) c.end_round.ensures.ends.0 c.wait_of.ensures
    c.in-Round.ensures.requests c.end_round.ensures.ends.1 c.end_round.ensures.ends.2

pub returns-in-Round-clause-settled : goal.returns-in-Round-clause-settled
returns-in-Round-clause-settled g c none so = c.end_round.ensures.settled none
