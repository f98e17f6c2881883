use Rattle.std.proofs.Common.{◌≡◌, Err, rules}
use Rattle.replica.specs.contracts.roles.running.Running.{the_view}
use Rattle.replica.proofs.roles.Steps.{tick_is_step, tick_refuses}
use Rattle.replica.proofs.roles.running.Running.tick.Goals as goal

pub ready-requires : goal.ready-requires
ready-requires c =
    rw (← c.self.view_is)
    (tick_is_step (the_view c.self.inside) c.len-len.result c.in_ok-plan.plan c.len-len.ensures.len
    c.in_ok-plan.ensures.plan)

pub returns-in_err-plan-clause-refused : goal.returns-in_err-plan-clause-refused
returns-in_err-plan-clause-refused c =
    let same : c.from_residual.result ≡ Err c.in_err-plan.field-0.0 = search rules in
    rw same (tick_refuses (the_view c.self.inside) c.args.self.now c.len-len.result
    (Err c.in_err-plan.field-0.0) c.self.view_is c.len-len.ensures.len
    c.in_err-plan.ensures.refused)
