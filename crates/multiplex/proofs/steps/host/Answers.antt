use Rattle.std.proofs.Common.{refl, subst, Some}
use Rattle.polled.specs.{Telling.Tells, Happenings.watched}
use Rattle.multiplex.specs.{model.Scenes.at_guest, model.Visiting.beside, Scenes.scene}
use Rattle.multiplex.proofs.Walking.{goes_on_settled, hosts_broken, hosts_on, settled_so}
use Rattle.multiplex.proofs.Asked.{hosts_ended, hosts_off, hosts_unwatched, hosts_watched}
use Rattle.multiplex.specs.declared.ends.EndReason.TheVariants as why
use Rattle.multiplex.proofs.steps.host.Goals as goal

pub returns-in-Some-clause-asks : goal.returns-in-Some-clause-asks
returns-in-Some-clause-asks g c =
    hosts_ended g.C.Sockets.requests c.args.clients.now c.talk_on.new.clients
    c.args.guest.now.number c.args.guest.now _ _ c.in-Some.ensures.asks

pub returns-then-stays_off-clause-asks : goal.returns-then-stays_off-clause-asks
returns-then-stays_off-clause-asks g c =
    hosts_off g.C.Sockets.requests c.args.clients.now c.talk_on.new.clients
    c.args.guest.now.number c.args.guest.now _ c.is_some-was_off.result c.in_default.ensures.asks
    c.is_some-was_off.ensures c.if-stays_off.ensures

pub returns-then-watch-clause-asks : goal.returns-then-watch-clause-asks
returns-then-watch-clause-asks g c =
    hosts_watched g.C.Sockets.requests c.args.clients.now c.talk_on.new.clients c.watch.new.self
    c.args.guest.now.number c.args.guest.now _ c.is_some-was_off.result c.waits_to_read.result _
    c.watch.result c.in_default.ensures.asks c.watch.ensures.requests c.is_some-was_off.ensures
    c.if-stays_off.ensures c.waits_to_read.ensures refl c.if-watch.true

pub returns-else-watch-clause-asks : goal.returns-else-watch-clause-asks
returns-else-watch-clause-asks g c =
    hosts_unwatched g.C.Sockets.requests c.args.clients.now c.talk_on.new.clients
    c.watch.new.self c.args.guest.now.number c.args.guest.now _ why.Broke
    _ c.in_default.ensures.asks c.watch.ensures.requests

pub returns-then-watch-clause-hosts : goal.returns-then-watch-clause-hosts
returns-then-watch-clause-hosts g c =
    let happened = g.C.Sockets.happened in
    let t = c.in_default.ensures.talks in (
      t.0,
      t.1,
      (
        record { number = c.in_default.ensures.number; ready = cc },
        hosts_on g.D.Desk g.L.Peers happened c.args.guest.now.number c.args.time
            (beside c.args.dear.now.spent c.args.guest.now.notes c.args.differs.now)
            (beside c.talk_on.new.dear.spent c.talk_on.new.guest.notes c.talk_on.new.differs)
            (at_guest (scene c.args.node.now c.args.links.now c.args.clients.now) c.args.guest.now)
            t.0.node t.0.peers c.talk_on.new.clients c.watch.new.self c.talk_on.new.guest.talk t.2
            (subst (λ ok. Tells (happened c.talk_on.new.clients) (happened c.watch.new.self)
            (watched c.args.guest.now.number ok)) c.if-watch.true c.watch.ensures.told),
      ),
      t.3,
      t.4,
    )

pub returns-else-watch-clause-hosts : goal.returns-else-watch-clause-hosts
returns-else-watch-clause-hosts g c =
    let happened = g.C.Sockets.happened in
    let t = c.in_default.ensures.talks in (
      t.0,
      t.1,
      (
        record { number = c.in_default.ensures.number; ready = cc },
        hosts_broken g.D.Desk g.L.Peers happened c.args.guest.now.number c.args.time
            (beside c.args.dear.now.spent c.args.guest.now.notes c.args.differs.now)
            (beside c.talk_on.new.dear.spent c.talk_on.new.guest.notes c.talk_on.new.differs)
            (at_guest (scene c.args.node.now c.args.links.now c.args.clients.now) c.args.guest.now)
            t.0.node t.0.peers c.talk_on.new.clients c.watch.new.self c.talk_on.new.guest.talk t.2
            (subst (λ ok. Tells (happened c.talk_on.new.clients) (happened c.watch.new.self)
            (watched c.args.guest.now.number ok)) c.if-watch.false c.watch.ensures.told),
      ),
      settled_so t.1 (Some why.Broke) (goes_on_settled t.1 t.3) (λ n. absurd cc),
      t.4,
    )

pub returns-then-stays_off-clause-hosts : goal.returns-then-stays_off-clause-hosts
returns-then-stays_off-clause-hosts g c =
    let t = c.in_default.ensures.talks in
    (t.0, t.1, (record { number = c.in_default.ensures.number; ready = cc }, t.2), t.3, t.4)

pub returns-in-Some-clause-hosts : goal.returns-in-Some-clause-hosts
returns-in-Some-clause-hosts g c =
    let t = c.in-Some.ensures.talks in
    (t.0, t.1, (record { number = c.in-Some.ensures.number; ready = cc }, t.2), t.3, t.4)

pub returns-then-watch-clause-settled : goal.returns-then-watch-clause-settled
returns-then-watch-clause-settled g c other so =
    c.in_default.ensures.settled (λ n. absurd cc) so

pub returns-else-watch-clause-settled : goal.returns-else-watch-clause-settled
returns-else-watch-clause-settled g c other so =
    c.in_default.ensures.settled (λ n. absurd cc) so

pub returns-then-stays_off-clause-settled : goal.returns-then-stays_off-clause-settled
returns-then-stays_off-clause-settled g c other so =
    c.in_default.ensures.settled (λ n. absurd cc) so
