use Rattle.log_rows.{specs.Rows.heading, specs.Rows.row_from, proofs.Steps.one_more}
use Rattle.log_rows.proofs.writing.rows.Goals as goal

pub loop-position-preserved : goal.loop-position-preserved
loop-position-preserved c =
    let done = c.in_ok-take_row.ensures c.loop-position.invariant.0 in (
      done.0,
      one_more (row_from c.args.from c.args.shown c.args.log.now.entries) heading
          c.loop-position.out.items c.take_row.new.out.items c.loop-position.position
          c.loop-position.invariant.1 done.1,
    )
