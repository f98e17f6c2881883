use Rattle.std.proofs.Common.{arith, length, min}
use Rattle.table_service.specs.Checks.{change_at}
use Rattle.table_service.proofs.Walks.{added, ended, range_ends, range_split}
use Rattle.table_service.proofs.checks.note_changes.Goals as goal

pub loop-place-preserved : goal.loop-place-preserved
loop-place-preserved c =
    let was = c.args.was.now in
    let left = c.args.left.now in
    let place = c.loop-place.place in
    let most = min (length was) 5 in record {
      end = c.loop-place.invariant.end;
      left = added c.loop-place.notes.items c.note_change.new.notes.items
          (change_at was left place) _ _ _ c.in_ok-note_change.ensures
          (range_split (change_at was left) place most (omega arith)) c.loop-place.invariant.left;
    }

pub returns : goal.returns
returns c =
    let was = c.args.was.now in
    let left = c.args.left.now in
    let place = c.loop-place.place in
    ended c.loop-place.notes.items _ _
    (range_ends (change_at was left) place (min (length was) 5) (omega arith))
    c.loop-place.invariant.left
