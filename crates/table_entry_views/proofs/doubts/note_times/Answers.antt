use Rattle.std.proofs.Common.{◌+◌, ◌++◌, ◌∙◌, List, Option, ap, drop, sym}
use Rattle.std.proofs.lemmas.List.{at_drop_all, at_drop_more}
use Rattle.texts.specs.declared.command.Entered.{Entered}
use Rattle.table_entry_views.specs.Doubts.{asked_of, notes_from}
use Rattle.table_entry_views.proofs.{Walks.added, Walks.ended}
use Rattle.table_entry_views.proofs.doubts.note_times.Goals as goal

pub loop-place-preserved : goal.loop-place-preserved
loop-place-preserved c =
    let bests = c.args.bests in
    let fields = c.args.fields.now in
    let place = c.loop-place.place in
    let field = c.index-fields-place.result in
    let rest = notes_from bests (place + 1 + 1) (drop (place + 1) fields) in
    added c.loop-place.notes.items c.note_time.new.notes.items
    (asked_of bests (place + 1) field) rest _ _ c.in_ok-note_time.ensures
    (at_drop_more (λ (fs : List (Option Entered)). notes_from bests (place + 1) fs) fields place
    field c.loop-place-test.true
    ∙ ap (λ (f : Option Entered). asked_of bests (place + 1) f ++ rest)
    (sym c.index-fields-place.is)) c.loop-place.invariant

pub returns : goal.returns
returns c =
    ended c.loop-place.notes.items _ _
    (at_drop_all
    (λ (fs : List (Option Entered)). notes_from c.args.bests (c.loop-place.place + 1) fs)
    c.args.fields.now c.loop-place.place c.loop-place-test.false) c.loop-place.invariant
