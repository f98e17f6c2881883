use Rattle.std.proofs.Common.{arith, length, min}
use Rattle.commands.specs.Accepted.{scramble_of}
use Rattle.table_service.specs.Checks.{unsolved_at}
use Rattle.table_service.proofs.Walks.{added, ended, range_ends, range_split}
use Rattle.table_service.proofs.checks.note_unsolved.Goals as goal

pub loop-at-preserved : goal.loop-at-preserved
loop-at-preserved c =
    let id = c.args.id in
    let scrambles = scramble_of c.args.meet.now.accepted id.event id.round in
    let now = c.args.now.now in
    let asked = unsolved_at scrambles now c.args.left.now in
    let at = c.loop-at.at in
    let most = min (length now) 5 in record {
      end = c.loop-at.invariant.end;
      left = added c.loop-at.notes.items c.note_if_unsolved.new.notes.items (asked at) _ _ _
          c.in_ok-note_if_unsolved.ensures (range_split asked at most (omega arith))
          c.loop-at.invariant.left;
    }

pub returns : goal.returns
returns c =
    let id = c.args.id in
    let scrambles = scramble_of c.args.meet.now.accepted id.event id.round in
    let now = c.args.now.now in
    let asked = unsolved_at scrambles now c.args.left.now in
    let at = c.loop-at.at in
    ended c.loop-at.notes.items _ _
    (range_ends asked at (min (length now) 5) (omega arith)) c.loop-at.invariant.left
