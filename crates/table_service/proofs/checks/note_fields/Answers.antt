use Rattle.std.proofs.Common.{◌+◌, List, Option}
use Rattle.std.proofs.lemmas.List.{at_drop_all, at_drop_more}
use Rattle.scorecard.specs.declared.fault.ScorecardFault.{ScorecardFault}
use Rattle.table_service.{specs.Checks.field_notes, proofs.Walks.added, proofs.Walks.ended}
use Rattle.table_service.proofs.checks.note_fields.Goals as goal

pub loop-place-preserved : goal.loop-place-preserved
loop-place-preserved c =
    let place = c.loop-place.place in
    added c.loop-place.notes.items c.note_field.new.notes.items _ _ _ _ c.in_ok-note_field.ensures
    (at_drop_more (λ (fs : List (Option ScorecardFault)). field_notes (place + 1) fs)
    c.args.faults.now place _ c.loop-place-test.true) c.loop-place.invariant

pub returns : goal.returns
returns c =
    ended c.loop-place.notes.items _ _
    (at_drop_all (λ (fs : List (Option ScorecardFault)). field_notes (c.loop-place.place + 1) fs)
    c.args.faults.now c.loop-place.place c.loop-place-test.false) c.loop-place.invariant
