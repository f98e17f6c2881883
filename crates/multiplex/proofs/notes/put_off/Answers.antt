use Rattle.std.proofs.Common.{refl, ap, sym, ◌∙◌}
use Rattle.multiplex.specs.Noting.{awaited_next}
use Rattle.multiplex.proofs.Noted.{off_due, off_none, off_waits}
use Rattle.multiplex.proofs.notes.put_off.Goals as goal

pub returns-in_default : goal.returns-in_default
returns-in_default g c =
    off_none (g.D.Desk.home_of c.args.node.now) (g.D.Desk.seen c.args.node.now) c.args.time
    c.args.talk.now c.args.notes.now _
    (ap (λ h. awaited_next h c.args.talk.now) (sym c.home.ensures.home)
    ∙ sym c.in_default.ensures) refl refl

pub returns-then-is_due : goal.returns-then-is_due
returns-then-is_due g c =
    off_due (g.D.Desk.home_of c.args.node.now) (g.D.Desk.seen c.args.node.now) c.args.time
    c.args.talk.now c.args.notes.now _ c.in-Some.awaited c.until_of-until.result
    (ap (λ h. awaited_next h c.args.talk.now) (sym c.home.ensures.home) ∙ sym c.in-Some.ensures)
    c.until_of-until.ensures c.if-is_due.ensures refl refl

pub returns : goal.returns
returns g c =
    off_waits (g.D.Desk.home_of c.args.node.now) (g.D.Desk.seen c.args.node.now) c.args.time
    c.args.talk.now c.args.notes.now _ c.in-Some.awaited c.until_of-until.result c.requires.home
    (ap (λ h. awaited_next h c.args.talk.now) (sym c.home.ensures.home) ∙ sym c.in-Some.ensures)
    c.until_of-until.ensures c.if-is_due.ensures refl refl
