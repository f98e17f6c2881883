use Rattle.std.proofs.Common.{ap, sym, ◌∙◌}
use Rattle.multiplex.{specs.Noting.awaited_of, proofs.Noted.next_none, proofs.Noted.next_some}
use Rattle.multiplex.proofs.notes.awaited_next.Goals as goal

pub returns-in-Some : goal.returns-in-Some
returns-in-Some c =
    c.awaited_by.ensures
    ∙ ap (λ z. awaited_of c.args.home z)
    (sym (next_some c.args.talk.now c.in-Some.frame.now c.in-Some.ensures.some))

pub returns-in-None : goal.returns-in-None
returns-in-None c =
    ap (λ z. awaited_of c.args.home z) (sym (next_none c.args.talk.now c.in-None.ensures.none))
