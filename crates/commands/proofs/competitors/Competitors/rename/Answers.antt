use Rattle.std.proofs.Common.{sym, ◌∙◌}
use Rattle.commands.proofs.Registrations.{another_name}
use Rattle.commands.proofs.competitors.Competitors.rename.Goals as goal

pub returns-clause-kept : goal.returns-clause-kept
returns-clause-kept c =
    another_name c.args.accepted.now c.args.number c.args.name.now c.args.self.now c.note.new.self
    c.requires.kept c.requires.known (sym c.is_taken.ensures ∙ c.if-is_taken.false)
    c.in_ok-note.ensures.ok
