use Rattle.schedule_views.proofs.Ordered.{are_in_order}
use Rattle.schedule_views.proofs.laws.times_are_in_order.Goals as goal

pub returns : goal.returns
returns c = are_in_order
