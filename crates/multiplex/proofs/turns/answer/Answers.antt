use Rattle.std.proofs.Common.{inr, refl}
use Rattle.multiplex.specs.model.Asking.{AsksSome, Offers}
use Rattle.multiplex.proofs.Asked.{asks_as, asks_none}
use Rattle.polled.proofs.Telling.{Tells-nil}
use Rattle.multiplex.proofs.turns.answer.Goals as goal

pub returns-then-not-served-clause-sends : goal.returns-then-not-served-clause-sends
returns-then-not-served-clause-sends g c =
    inr (refl, Tells-nil (g.C.Sockets.happened c.args.clients.now))

pub returns-then-not-wants_write-clause-sends : goal.returns-then-not-wants_write-clause-sends
returns-then-not-wants_write-clause-sends g c =
    inr (refl, Tells-nil (g.C.Sockets.happened c.args.clients.now))

pub returns-then-not-served-clause-asks : goal.returns-then-not-served-clause-asks
returns-then-not-served-clause-asks g c =
    asks_none g.C.Sockets.requests c.args.clients.now AsksSome tt

pub returns-then-not-wants_write-clause-asks : goal.returns-then-not-wants_write-clause-asks
returns-then-not-wants_write-clause-asks g c =
    asks_none g.C.Sockets.requests c.args.clients.now AsksSome tt

pub returns-clause-asks : goal.returns-clause-asks
returns-clause-asks g c =
    asks_as g.C.Sockets.requests c.args.clients.now c.send.new.clients
    (Offers c.args.number c.args.talk.now.output) AsksSome (λ xs h. tt) c.send.ensures.asks
