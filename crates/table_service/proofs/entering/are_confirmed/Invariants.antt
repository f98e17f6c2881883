use Rattle.std.proofs.Common.{◌≡◌, drop}
use Rattle.table_service.specs.Plans.{are_confirmed}
use Rattle.table_service.proofs.entering.are_confirmed.Given as goal

abbrev pub invariant-loop-note : goal.invariant-loop-note
invariant-loop-note l =
    are_confirmed l.sure l.notes ≡ are_confirmed l.sure (drop l.note-index l.notes)
