use Rattle.std.proofs.Common.{arith}
use Rattle.hall_survey.proofs.Told.{ends_at}
use Rattle.hall_survey.proofs.asked.all_told.Goals as goal

pub returns-clause-told : goal.returns-clause-told
returns-clause-told c =
    ends_at c.args.asked.now c.loop-one.one-index c.loop-one.told.items
    (omega (arith, c.loop-one-test.false)) c.loop-one.invariant.told
