use Rattle.std.proofs.Common.{sym, ◌∙◌}
use Rattle.commands.proofs.Registrations.{registration}
use Rattle.commands.proofs.competitors.Competitors.register.Goals as goal

pub returns-clause-kept : goal.returns-clause-kept
returns-clause-kept c =
    registration c.args.accepted.now c.args.number c.args.name.now c.args.self.now c.note.new.self
    c.requires (sym c.is_registered.ensures ∙ c.if-is_registered.false)
    (sym c.is_taken.ensures ∙ c.if-is_taken.false) c.in_ok-note.ensures.ok
