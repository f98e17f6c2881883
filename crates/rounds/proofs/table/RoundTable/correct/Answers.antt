use Rattle.std.proofs.Common.{◌-◌, slice_set, All, ap, sym, subst, ◌∙◌}
use Rattle.std.proofs.lemmas.List.Elements.{All-set}
use Rattle.attempts.specs.Attempts.{IsInRangeOf}
use Rattle.rounds.{specs.Tables.replaced, proofs.TableCalls.changed_table}
use Rattle.rounds.proofs.table.RoundTable.correct.Goals as goal

pub replace-requires-clause-in_range : goal.replace-requires-clause-in_range
replace-requires-clause-in_range c =
    let at = c.in-Some.ensures in
    let unit = c.self.inside.entrants.rules.unit in
    subst (λ vs. All (IsInRangeOf unit) vs) (sym c.with_other-changed.ensures)
    (All-set (IsInRangeOf unit) c.row_at-row.result.now (c.from-attempt.result - 1) c.args.value
    (rw (← c.self.view_is) at c.requires)
    (subst (λ vs. All (IsInRangeOf unit) vs) (sym (c.row_at-row.ensures at.entrant at.there))
    at.ranged))

pub returns-clause-corrected : goal.returns-clause-corrected
returns-clause-corrected c =
    let at = c.in-Some.ensures in
    rw (← c.self.view_is)
    (changed_table c.self.inside.closed c.self.inside.entrants c.replace.new.self c.args.number
    c.in-Some.index at c.row_at-row.result.now c.with_other-changed.result
    (replaced c.args.attempt c.args.value)
    c.replace.ensures (c.row_at-row.ensures at.entrant at.there) (c.with_other-changed.ensures
    ∙ ap (λ k. slice_set c.row_at-row.result.now (k - 1) c.args.value) c.from-attempt.ensures))
