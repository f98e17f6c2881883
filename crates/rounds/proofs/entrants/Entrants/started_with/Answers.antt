use Rattle.std.proofs.Common.{ap, sym, ◌∙◌}
use Rattle.std.specs.List.{list_any}
use Rattle.rounds.{specs.Tables.is_started_attempt, proofs.Passing.line_read}
use Rattle.rounds.proofs.Changing.{is_in_count, recounted_same, started_after}
use Rattle.rounds.proofs.entrants.Entrants.started_with.Goals as goal

pub recounted-requires-clause-counted : goal.recounted-requires-clause-counted
recounted-requires-clause-counted c =
    is_in_count (λ s. list_any is_started_attempt s.row) c.self.inside.by_number.entries
    c.args.index c.index-before.result.now c.index-before.ensures
    c.has_started.result c.self.inside.started
    (c.has_started.ensures ∙ ap (list_any is_started_attempt) c.values.ensures.values)
    c.self.invariant.counts_started

pub returns : goal.returns
returns c =
    let es = c.self.inside.by_number.entries in
    let before = c.index-before.result.now in
    let line = line_read es c.args.index before c.index-before.ensures in
    rw (← c.self.view_is) (sym
    (recounted_same c.self.inside.started c.has_started.result c.has_started-2.result _ _
    (c.has_started.ensures ∙ ap (list_any is_started_attempt) c.values.ensures.values)
    c.has_started-2.ensures c.recounted.result c.recounted.ensures)
    ∙ started_after c.self.inside.rules es c.args.index (line.0, before) c.args.values.now line.1
    c.self.inside.started c.self.invariant.counts_started)
