use Rattle.std.proofs.Common.{ap, sym, ◌∙◌}
use Rattle.multiplex.specs.Noting.{awaited_next, awakes_at, awakes_by}
use Rattle.multiplex.proofs.steps.is_awake.Goals as goal

pub returns-in_default : goal.returns-in_default
returns-in_default g c =
    ap (λ z. awakes_at (g.D.Desk.home_of c.args.node.now) (g.D.Desk.seen c.args.node.now)
    c.args.time c.args.guest.now.talk z) (sym c.in_default.is)

pub returns-in-Some-awaited_next : goal.returns-in-Some-awaited_next
returns-in-Some-awaited_next g c =
    let home = g.D.Desk.home_of c.args.node.now in
    let x = g.D.Desk.seen c.args.node.now in
    let talk = c.args.guest.now.talk in
    c.is_due.ensures
    ∙ ap (λ z. awakes_by x z c.in-Some.until c.args.time)
    (c.in-Some-awaited_next.ensures ∙ ap (λ h. awaited_next h talk) c.home.ensures.home)
    ∙ ap (λ z. awakes_at home x c.args.time talk z) (sym c.in-Some.is)

pub returns-in-None : goal.returns-in-None
returns-in-None g c =
    let home = g.D.Desk.home_of c.args.node.now in
    let x = g.D.Desk.seen c.args.node.now in
    let talk = c.args.guest.now.talk in
    ap (λ z. awakes_by x z c.in-Some.until c.args.time)
    (c.in-None.ensures ∙ ap (λ h. awaited_next h talk) c.home.ensures.home)
    ∙ ap (λ z. awakes_at home x c.args.time talk z) (sym c.in-Some.is)
