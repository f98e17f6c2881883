use Rattle.std.proofs.Common.{refl, ◌∷◌, [], true}
use Rattle.polled.{specs.Requests.Watching, proofs.Telling.Tells-nil}
use Rattle.multiplex.proofs.{Asked.asleep, Shutting.alters_none, Shutting.may_watch}
use Rattle.multiplex.proofs.steps.wake_one.Goals as goal

pub returns-then-not-is_awake-clause-told : goal.returns-then-not-is_awake-clause-told
returns-then-not-is_awake-clause-told g c home t table =
    alters_none g.C.Sockets.happened home t table c.args.clients.now c.args.clients.now
    (Tells-nil (g.C.Sockets.happened c.args.clients.now))

pub returns-then-not-is_awake-clause-asks : goal.returns-then-not-is_awake-clause-asks
returns-then-not-is_awake-clause-asks g c =
    asleep g.C.Sockets.requests c.args.clients.now (g.D.Desk.home_of c.args.node.now)
    (g.D.Desk.seen c.args.node.now) c.args.time c.args.guest.now c.if-not-is_awake.ensures

pub returns-clause-told : goal.returns-clause-told
returns-clause-told g c home t table =
    may_watch g.C.Sockets.happened home t c.args.guest.now.number c.watch.result table
    c.args.clients.now c.watch.new.self c.watch.ensures.told

pub returns-clause-asks : goal.returns-clause-asks
returns-clause-asks g c = (
  Watching c.args.guest.now.number true c.watch.result ∷ [],
  c.watch.ensures.requests,
  λ awake. ([], c.watch.result, [], refl),
)
