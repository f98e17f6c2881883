use Rattle.std.proofs.Common.{ap, refl, sym, subst, ◌∙◌}
use Rattle.std.specs.List.{list_any}
use Rattle.formats.specs.Results.{IsFormatOf}
use Rattle.rounds.specs.{Tables.has_done, declared.rules.Rules.Rules, model.Field.Field}
use Rattle.rounds.proofs.Leaving.{rows_empty, up_to_date_otherwise}
use Rattle.rounds.proofs.entrants.Entrants.set_rules.Goals as goal

pub invariant_of-self : goal.invariant_of-self
invariant_of-self c =
    let other : Rules =
    record { format = c.args.format; unit = c.self.inside.rules.unit; cutoff = c.args.cutoff } in
    up_to_date_otherwise c.self.inside.rules other refl c.self.inside.by_number.entries
    c.self.inside.started c.self.inside.unfinished c.self.inside.with_result
    (rows_empty c.self.inside.by_number.entries
    (ap (λ (f : Field). list_any (has_done 1) f.entrants) c.self.view_is ∙ c.requires.none))
    c.requires.cutoff
    (subst (λ (f : Field). IsFormatOf f.rules.unit c.args.format) (sym c.self.view_is)
    c.requires.format) c.self.invariant
