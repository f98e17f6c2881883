use Rattle.multiplex.proofs.Periods.{ticks_need_a_period}
use Rattle.multiplex.proofs.laws.ticks_need_a_period.Goals as goal

pub returns : goal.returns
returns g c = ticks_need_a_period g.D.Desk
