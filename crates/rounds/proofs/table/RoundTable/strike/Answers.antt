use Rattle.std.proofs.Common.{◌-◌, ◌≤◌, length, All, ap, sym, subst, ◌∙◌}
use Rattle.std.proofs.lemmas.List.Elements.{All-take}
use Rattle.attempts.specs.Attempts.{IsInRangeOf}
use Rattle.rounds.specs.Tables.{allotted, without_last}
use Rattle.rounds.proofs.{Allotted.one_less, TableCalls.changed_table}
use Rattle.rounds.proofs.table.RoundTable.strike.Goals as goal

pub replace-requires-clause-few : goal.replace-requires-clause-few
replace-requires-clause-few c =
    let at = c.in-Some.ensures in
    let rules = c.self.inside.entrants.rules in
    subst (λ vs. length vs ≤ allotted rules.format rules.cutoff vs) (sym
    (c.without_last-shorter.ensures ∙ ap without_last (c.row_at-row.ensures at.entrant at.there)))
    (one_less rules.format rules.cutoff at.entrant.values at.cutoff at.few)

pub replace-requires-clause-in_range : goal.replace-requires-clause-in_range
replace-requires-clause-in_range c =
    let at = c.in-Some.ensures in
    let unit = c.self.inside.entrants.rules.unit in
    subst (λ vs. All (IsInRangeOf unit) vs) (sym
    (c.without_last-shorter.ensures ∙ ap without_last (c.row_at-row.ensures at.entrant at.there)))
    (All-take (IsInRangeOf unit) (length at.entrant.values - 1) at.entrant.values at.ranged)

pub returns-clause-struck : goal.returns-clause-struck
returns-clause-struck c =
    let at = c.in-Some.ensures in
    rw (← c.self.view_is)
    (changed_table c.self.inside.closed c.self.inside.entrants c.replace.new.self c.args.number
    c.in-Some.index at c.row_at-row.result.now c.without_last-shorter.result without_last
    c.replace.ensures (c.row_at-row.ensures at.entrant at.there) c.without_last-shorter.ensures)
