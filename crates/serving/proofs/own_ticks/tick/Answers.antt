use Rattle.std.proofs.Common.{subst}
use Rattle.serving.specs.OwnTicks.{Ticks, TicksInPart, sides_alone}
use Rattle.serving.proofs.{OwnTicks.ticks, OwnTicks.ticks_in_part, Parts.given_err}
use Rattle.serving.proofs.own_ticks.tick.Goals as goal

pub returns-clause-ok : goal.returns-clause-ok
returns-clause-ok g c =
    let d = g.D.Desk in
    let p = g.P.Peers in
    subst (λ home. Ticks home (sides_alone d p c.args.wire c.args.node.now c.args.peers.now)
    (sides_alone d p c.args.wire c.tick.new.node c.tick.new.peers)) c.home-home.ensures.home
    (ticks c.home-home.result _ _ _ _ _ c.in_ok-tick.ensures.ok)

pub returns-in_err-tick-clause-err : goal.returns-in_err-tick-clause-err
returns-in_err-tick-clause-err g c =
    let d = g.D.Desk in
    let p = g.P.Peers in
    given_err c.from_residual.result (subst
    (λ home. TicksInPart home (sides_alone d p c.args.wire c.args.node.now c.args.peers.now)
    (sides_alone d p c.args.wire c.tick.new.node c.tick.new.peers)) c.home-home.ensures.home
    (ticks_in_part c.home-home.result _ _ _ _ c.in_err-tick.ensures.err))
