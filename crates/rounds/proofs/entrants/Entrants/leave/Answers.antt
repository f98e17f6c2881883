use Rattle.std.proofs.Common.{◌-◌, List, slice_get, ap, sym, subst, ◌∙◌}
use Rattle.rounds.specs.{Tables.Entrant, model.Field.Field}
use Rattle.rounds.specs.model.UpToDate.{field_of, entrants_of, AreUpToDate}
use Rattle.rounds.proofs.Leaving.{up_to_date_left, one_unfinished, entrants_left, line_of_entrant}
use Rattle.rounds.proofs.entrants.Entrants.leave.Goals as goal

pub overflow_sub-self : goal.overflow_sub-self
overflow_sub-self c =
    let there = c.requires.there in
    let es = c.self.inside.by_number.entries in
    let line = line_of_entrant es c.args.index there.entrant
    (ap (λ (f : Field). slice_get f.entrants c.args.index) c.self.view_is ∙ there.there) in
    one_unfinished c.self.inside.rules es c.args.index line.0 c.self.inside.unfinished line.1
    (ap (λ (e : Entrant). e.values) line.2 ∙ there.none) c.self.invariant.cutoff
    c.self.invariant.counts_unfinished

pub invariant_of-self : goal.invariant_of-self
invariant_of-self c =
    let there = c.requires.there in
    let es = c.self.inside.by_number.entries in
    let line = line_of_entrant es c.args.index there.entrant
    (ap (λ (f : Field). slice_get f.entrants c.args.index) c.self.view_is ∙ there.there) in
    subst (λ xs.
    AreUpToDate c.self.inside.rules xs c.self.inside.started (c.self.inside.unfinished - 1)
    c.self.inside.with_result) (sym c.shift_remove_index.ensures.entries)
    (up_to_date_left c.self.inside.rules es c.args.index line.0 line.1
    (ap (λ (e : Entrant). e.values) line.2 ∙ there.none) c.self.inside.started
    c.self.inside.unfinished c.self.inside.with_result c.self.invariant)

pub returns : goal.returns
returns c =
    rw (← c.self.view_is) (ap
    (λ (xs : List Entrant). let f : Field = record (field_of c.self.inside) { entrants = xs } in f)
    (ap entrants_of c.shift_remove_index.ensures.entries
    ∙ entrants_left c.self.inside.by_number.entries c.args.index))
