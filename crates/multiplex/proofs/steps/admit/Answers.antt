use Rattle.std.proofs.Common.{arith, length}
use Rattle.multiplex.specs.Musts.{Accepts, Admits, MakesPlace}
use Rattle.multiplex.proofs.{Asked.admits_crowded, Asked.asks_both, Shutting.alters_both}
use Rattle.polled.specs.declared.answers.AcceptedPeer.TheVariants as accepted_is
use Rattle.multiplex.specs.declared.ends.EndReason.TheVariants as why
use Rattle.multiplex.proofs.steps.admit.Goals as goal

pub returns-in-Some-clause-alters : goal.returns-in-Some-clause-alters
returns-in-Some-clause-alters g c =
    c.in-Some.ensures.alters _ c.args.terms why.Crowded
    (omega (arith, c.if-len-lt-MOST_OPEN.false, c.len.ensures, c.args.table.now.guests.ok.0))

pub returns-in-Some-clause-kept : goal.returns-in-Some-clause-kept
returns-in-Some-clause-kept g c = c.crowd_out.ensures.kept _ _

pub returns-clause-alters : goal.returns-clause-alters
returns-clause-alters g c =
    alters_both _ _ c.args.terms _ _ _ _ _ _ _
    (c.in_default.ensures.alters _ c.args.terms why.Crowded
    (omega (arith, c.if-len-lt-MOST_OPEN.false, c.len.ensures, c.args.table.now.guests.ok.0)))
    c.enter-2.ensures.alters

pub returns-clause-kept : goal.returns-clause-kept
returns-clause-kept g c h = c.enter-2.ensures.kept (c.crowd_out.ensures.kept _ _ h)

pub returns-clause-asks : goal.returns-clause-asks
returns-clause-asks g c =
    asks_both g.C.Sockets.requests c.args.clients.now c.crowd_out.new.clients c.enter-2.new.clients
    (MakesPlace 0 (length c.args.table.now.guests.items) accepted_is.Full)
    (Accepts c.crowd_out.new.table.next (length c.crowd_out.new.table.guests.items))
    (Admits c.args.terms c.enter-2.result c.args.table.now) (λ xs ys h k. admits_crowded
    c.args.terms c.enter-2.result c.args.table.now c.crowd_out.new.table xs ys
    (omega (arith, c.if-len-lt-MOST_OPEN.false, c.len.ensures, c.args.table.now.guests.ok.0))
    c.crowd_out.ensures.next c.crowd_out.ensures.fewer h k) c.crowd_out.ensures.asks
    c.enter-2.ensures.asks
