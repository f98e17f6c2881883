use Rattle.std.proofs.Common.{◌≡◌, ◌+◌, List, [], ◌∷◌, ◌++◌, false, length, nat_eq, ap, sym, subst}
use Rattle.std.proofs.Common.{◌∙◌, arith}
use Rattle.std.{specs.List.list_any, proofs.lemmas.List.map-append, proofs.lemmas.List.length-map}
use Rattle.indexmap.proofs.CallerLemmas.{insert_entry-new}
use Rattle.attempts.specs.declared.Value.{Value}
use Rattle.rounds.specs.{Tables.Entrant, Tables.has_number, model.Field.Field}
use Rattle.rounds.specs.model.UpToDate.{field_of, entrant_of, entrants_of, AreUpToDate}
use Rattle.rounds.proofs.EntrantLines.{is_some_lookup, none_from}
use Rattle.rounds.proofs.{Entering.up_to_date_newcomer, entrants.Entrants.enter.Goals.In_ok-insert}
use Rattle.rounds.proofs.entrants.Entrants.enter.Goals as goal

pushed : (c : In_ok-insert) → c.insert.new.self.entries
    ≡ c.self.inside.by_number.entries ++ (c.args.number, c.newcomer.result) ∷ []
pushed c =
    let absent : list_any (has_number c.args.number) (entrants_of c.self.inside.by_number.entries)
    ≡ false = ap (λ (f : Field). list_any (has_number c.args.number) f.entrants) c.self.view_is
    ∙ c.requires.absent in
    c.in_ok-insert.ensures.entries
    ∙ insert_entry-new nat_eq c.self.inside.by_number c.args.number _
    (none_from _ (sym (is_some_lookup c.args.number c.self.inside.by_number.entries) ∙ absent))

pub invariant_of-self : goal.invariant_of-self
invariant_of-self c =
    subst (λ es.
    AreUpToDate c.self.inside.rules es c.self.inside.started c.self.inside.unfinished
    c.self.inside.with_result) (sym c.in_err-insert.ensures.err) c.self.invariant

pub invariant_of-self-2 : goal.invariant_of-self-2
invariant_of-self-2 c =
    let es = c.self.inside.by_number.entries in
    let same : length (entrants_of es) ≡ length c.args.self.now.entrants =
    ap (λ (f : Field). length f.entrants) c.self.view_is in
    subst (λ xs.
    AreUpToDate c.self.inside.rules xs c.self.inside.started (c.self.inside.unfinished + 1)
    c.self.inside.with_result) (sym (pushed (goal.at.invariant_of-self-2 c).In_ok-insert))
    (up_to_date_newcomer c.self.inside.rules es c.args.number c.newcomer.result
    c.self.inside.started c.self.inside.unfinished c.self.inside.with_result c.self.invariant
    (omega (arith, same, c.requires.room, length-map es entrant_of)) c.newcomer.ensures)

pub returns-clause-entered : goal.returns-clause-entered
returns-clause-entered c =
    rw (← c.self.view_is) (ap
    (λ (xs : List Entrant). let f : Field = record (field_of c.self.inside) { entrants = xs } in f)
    (ap entrants_of (pushed (goal.at.returns-clause-entered c).In_ok-insert)
    ∙ map-append entrant_of c.self.inside.by_number.entries _
    ∙ ap (λ (vs : List Value). let e : Entrant = record { number = c.args.number; values = vs } in
    entrants_of c.self.inside.by_number.entries ++ e ∷ []) c.newcomer.ensures.row))
