use Rattle.std.proofs.Common.{◌≡◌, ◌-◌, ◌+◌, List, [], ◌∷◌, ◌++◌, false, nat_eq, remove, slice_get}
use Rattle.std.proofs.Common.{ap, sym, subst, ◌∙◌, arith}
use Rattle.std.{specs.List.list_any, proofs.lemmas.Option.slice_get_within}
use Rattle.std.proofs.lemmas.List.{map-append, Edits.remove-append_left, Edits.length-remove}
use Rattle.indexmap.proofs.CallerLemmas.{insert_entry-new}
use Rattle.attempts.specs.declared.Value.{Value}
use Rattle.rounds.{specs.Tables.Entrant, specs.Tables.has_number, proofs.EntrantLines.none_from}
use Rattle.rounds.{proofs.entrants.Entrants.exchange.Goals.In_ok-insert, specs.model.Field.Field}
use Rattle.rounds.proofs.{Entering.up_to_date_newcomer, EntrantLines.is_some_lookup}
use Rattle.rounds.specs.model.UpToDate.{field_of, entrant_of, entrants_of, AreUpToDate}
use Rattle.rounds.proofs.Leaving.{up_to_date_left, one_unfinished, entrants_left, line_of_entrant}
use Rattle.rounds.proofs.entrants.Entrants.exchange.Goals as goal

-- the lines after both steps
exchanged : (c : In_ok-insert) → remove c.insert.new.self.entries c.args.index
    ≡ remove c.self.inside.by_number.entries c.args.index ++ (c.args.next, c.newcomer.result) ∷ []
exchanged c =
    let es = c.self.inside.by_number.entries in
    let there = c.requires.there in
    let line = line_of_entrant es c.args.index there.entrant
    (ap (λ (f : Field). slice_get f.entrants c.args.index) c.self.view_is ∙ there.there) in
    let absent : list_any (has_number c.args.next) (entrants_of es) ≡ false =
    ap (λ (f : Field). list_any (has_number c.args.next) f.entrants) c.self.view_is
    ∙ c.requires.absent in
    ap (λ xs. remove xs c.args.index) (c.in_ok-insert.ensures.entries
    ∙ insert_entry-new nat_eq c.self.inside.by_number c.args.next _
    (none_from _ (sym (is_some_lookup c.args.next es) ∙ absent)))
    ∙ remove-append_left es ((c.args.next, c.newcomer.result) ∷ []) c.args.index
    (slice_get_within es c.args.index line.0 line.1)

pub invariant_of-self-2 : goal.invariant_of-self-2
invariant_of-self-2 c =
    let there = c.requires.there in
    let es = c.self.inside.by_number.entries in
    let line = line_of_entrant es c.args.index there.entrant
    (ap (λ (f : Field). slice_get f.entrants c.args.index) c.self.view_is ∙ there.there) in
    let none : line.0.1.row ≡ [] = ap (λ (e : Entrant). e.values) line.2 ∙ there.none in
    let one = one_unfinished c.self.inside.rules es c.args.index line.0 c.self.inside.unfinished
    line.1 none c.self.invariant.cutoff c.self.invariant.counts_unfinished in
    let back : c.self.inside.unfinished - 1 + 1 ≡ c.self.inside.unfinished = omega (arith, one) in
    let left = up_to_date_left c.self.inside.rules es c.args.index line.0 line.1 none
    c.self.inside.started c.self.inside.unfinished c.self.inside.with_result c.self.invariant in
    subst (λ xs.
    AreUpToDate c.self.inside.rules xs c.self.inside.started c.self.inside.unfinished
    c.self.inside.with_result) (sym (c.shift_remove_index.ensures.entries
    ∙ exchanged (goal.at.invariant_of-self-2 c).In_ok-insert)) (subst (λ m.
    AreUpToDate c.self.inside.rules
    (remove es c.args.index ++ (c.args.next, c.newcomer.result) ∷ []) c.self.inside.started m
    c.self.inside.with_result) back
    (up_to_date_newcomer c.self.inside.rules (remove es c.args.index) c.args.next
    c.newcomer.result c.self.inside.started (c.self.inside.unfinished - 1)
    c.self.inside.with_result left (omega (
      arith,
      c.self.invariant.few,
      length-remove es c.args.index (slice_get_within es c.args.index line.0 line.1),
    ))
    c.newcomer.ensures))

pub returns-clause-exchanged : goal.returns-clause-exchanged
returns-clause-exchanged c =
    let es = c.self.inside.by_number.entries in
    rw (← c.self.view_is) (ap
    (λ (xs : List Entrant). let f : Field = record (field_of c.self.inside) { entrants = xs } in f)
    (ap entrants_of (c.shift_remove_index.ensures.entries
    ∙ exchanged (goal.at.returns-clause-exchanged c).In_ok-insert)
    ∙ map-append entrant_of (remove es c.args.index) ((c.args.next, c.newcomer.result) ∷ [])
    ∙ ap (λ (xs : List Entrant). xs ++ entrant_of (c.args.next, c.newcomer.result) ∷ [])
    (entrants_left es c.args.index)
    ∙ ap (λ (vs : List Value). let e : Entrant = record { number = c.args.next; values = vs } in
    remove (entrants_of es) c.args.index ++ e ∷ []) c.newcomer.ensures.row))
