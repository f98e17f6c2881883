use Rattle.std.proofs.Common.{◌≡◌, ◌&&◌, None, Some, ap, sym, ◌∙◌}
use Rattle.std.specs.Option.{option_copied}
use Rattle.commands.specs.{Accepted.is_called, model.Kept.holder}
use Rattle.commands.proofs.Registrations.{taken_by_holder, differs, is_same}
use Rattle.commands.proofs.competitors.Competitors.is_taken.Goals as goal

pub returns-then-holder-number : goal.returns-then-holder-number
returns-then-holder-number c =
    let cs = c.args.accepted.now in
    let name = c.args.name.now in
    let at : holder c.args.self.now name ≡ Some c.in-Some.holder.now =
    rw (← c.as_bytes.ensures) (sym c.get.ensures.value ∙ ap option_copied c.in-Some.is) in
    c.is_called.ensures
    ∙ ap (is_called cs c.in-Some.holder.now) c.as_bytes-then-holder-number.ensures
    ∙ sym (ap (λ b. b && is_called cs c.in-Some.holder.now name)
    (differs c.in-Some.holder.now c.args.number c.if-holder-number.true))
    ∙ taken_by_holder cs c.args.number name c.args.self.now (Some c.in-Some.holder.now) c.requires
    at

pub returns-else-holder-number : goal.returns-else-holder-number
returns-else-holder-number c =
    let cs = c.args.accepted.now in
    let name = c.args.name.now in
    let at : holder c.args.self.now name ≡ Some c.in-Some.holder.now =
    rw (← c.as_bytes.ensures) (sym c.get.ensures.value ∙ ap option_copied c.in-Some.is) in
    is_same c.in-Some.holder.now c.args.number c.if-holder-number.false
    ∙ sym (ap (λ b. b && is_called cs c.in-Some.holder.now name)
    (is_same c.in-Some.holder.now c.args.number c.if-holder-number.false))
    ∙ taken_by_holder cs c.args.number name c.args.self.now (Some c.in-Some.holder.now) c.requires
    at

pub returns-in-None : goal.returns-in-None
returns-in-None c =
    let at : holder c.args.self.now c.args.name.now ≡ None =
    rw (← c.as_bytes.ensures) (sym c.get.ensures.value ∙ ap option_copied c.in-None.is) in
    taken_by_holder c.args.accepted.now c.args.number c.args.name.now c.args.self.now None
    c.requires at
