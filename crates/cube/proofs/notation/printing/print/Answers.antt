use Rattle.cube.proofs.notation.Steps.{written_more, written_first}
use Rattle.cube.proofs.notation.printing.print.Goals.{then-place-gt0+in_ok-push, else-place-gt0}
use Rattle.cube.proofs.notation.printing.print.Goals as goal

pub loop-place-preserved : goal.loop-place-preserved
loop-place-preserved c =
    elim c.if-place-gt0.branch [
      | then-place-gt0+in_ok-push w ↦ rw (
        c.in_ok-push_token.ensures,
        w.text-is,
        w.in_ok-push.ensures.items,
        c.loop-place.invariant,
      )
          (written_more c.args.moves.now c.loop-place.place _ c.loop-place-test.true
          w.if-place-gt0.true)
      | else-place-gt0 w ↦ rw (c.in_ok-push_token.ensures, w.text-is, c.loop-place.invariant)
          (written_first c.args.moves.now c.loop-place.place _ c.loop-place-test.true
          w.if-place-gt0.false)
    ]
