use Rattle.std.proofs.Common.{arith, length, min}
use Rattle.table_service.specs.Checks.{time_at}
use Rattle.table_service.proofs.Walks.{added, ended, range_ends, range_split}
use Rattle.table_service.proofs.checks.note_times.Goals as goal

pub loop-place-preserved : goal.loop-place-preserved
loop-place-preserved c =
    let fields = c.args.fields.now in
    let asked = time_at c.args.bounds fields in
    let place = c.loop-place.place in
    let most = min (length fields) 5 in record {
      end = c.loop-place.invariant.end;
      left = added c.loop-place.notes.items c.note_time.new.notes.items
          (asked place) _ _ _ c.in_ok-note_time.ensures
          (range_split asked place most (omega arith)) c.loop-place.invariant.left;
    }

pub returns : goal.returns
returns c =
    let fields = c.args.fields.now in
    let place = c.loop-place.place in
    ended c.loop-place.notes.items _ _
    (range_ends (time_at c.args.bounds fields) place (min (length fields) 5) (omega arith))
    c.loop-place.invariant.left
