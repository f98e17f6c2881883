use Rattle.std.proofs.Common.{◌≤◌, false, length, refl}
use Rattle.std.proofs.lemmas.List.Elements.{All-map}
use Rattle.rounds.{specs.Tables.Entrant, specs.Tables.allotted, proofs.Allotted.met_in}
use Rattle.rounds.specs.model.{Field.as_table, UpToDate.field_of, UpToDate.entrant_of}
use Rattle.rounds.proofs.entrants.Entrants.cutoff.Goals as goal

pub returns-clause-rules : goal.returns-clause-rules
returns-clause-rules c = rw (← c.self.view_is) c.self.invariant.cutoff

pub returns-clause-allotted : goal.returns-clause-allotted
returns-clause-allotted c =
    rw (← c.self.view_is) (All-map (λ (e : Entrant).
    length e.values ≤ allotted c.self.inside.rules.format c.self.inside.rules.cutoff e.values)
    entrant_of c.self.inside.by_number.entries c.self.invariant.within)

pub returns-clause-met : goal.returns-clause-met
returns-clause-met c =
    rw (← c.self.view_is)
    (met_in (as_table false (field_of c.self.inside)) c.self.inside.rules.cutoff refl
    c.self.invariant.cutoff (All-map (λ (e : Entrant).
    length e.values ≤ allotted c.self.inside.rules.format c.self.inside.rules.cutoff e.values)
    entrant_of c.self.inside.by_number.entries c.self.invariant.within))
