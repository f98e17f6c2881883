use Rattle.std.proofs.Common.{inl, inr, refl}
use Rattle.multiplex.specs.{Musts.OffersLast, model.Asking.Offers}
use Rattle.multiplex.proofs.Asked.{asks_as, offers_none}
use Rattle.polled.proofs.Telling.{Tells-nil}
use Rattle.multiplex.proofs.steps.offer_last.Goals as goal

pub returns-then-not-wants_write-clause-sends : goal.returns-then-not-wants_write-clause-sends
returns-then-not-wants_write-clause-sends g c =
    inr (refl, Tells-nil (g.C.Sockets.happened c.args.clients.now))

pub returns-then-not-wants_write-clause-asks : goal.returns-then-not-wants_write-clause-asks
returns-then-not-wants_write-clause-asks g c =
    offers_none g.C.Sockets.requests c.args.clients.now c.args.number c.args.talk.now
    c.wants_write.result c.wants_write.ensures c.if-not-wants_write.true

pub returns-clause-asks : goal.returns-clause-asks
returns-clause-asks g c =
    asks_as g.C.Sockets.requests c.args.clients.now c.send.new.clients
    (Offers c.args.number c.args.talk.now.output) (OffersLast c.args.number c.args.talk.now.output)
    (λ xs h. inl (c.wants_write.ensures.0 c.if-not-wants_write.false, h)) c.send.ensures.asks
