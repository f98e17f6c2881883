use Rattle.multiplex.proofs.Asked.{offers_ends}
use Rattle.multiplex.proofs.steps.end_last.Goals as goal

pub returns-clause-told : goal.returns-clause-told
returns-clause-told g c = (
  c.offer_last.new.clients,
  c.offer_last.result,
  c.offer_last.ensures.sends,
  c.close.ensures.told,
)

pub returns-clause-asks : goal.returns-clause-asks
returns-clause-asks g c =
    offers_ends g.C.Sockets.requests c.args.clients.now c.offer_last.new.clients c.close.new.self
    c.args.guest.now c.offer_last.ensures.asks c.close.ensures.requests
