use Rattle.std.proofs.Common.{refl}
use Rattle.proposer.specs.declared.plan.Plan.{Plan}
use Rattle.replica.proofs.Taking.{takes_refused}
use Rattle.replica.proofs.handling.carry_out.Goals as goal

pub returns-in-Err-clause-takes : goal.returns-in-Err-clause-takes
returns-in-Err-clause-takes g c s p =
    let x = c.args.desk.now in
    takes_refused Plan s x.desks x.number x.desk x.desk c.in-Err.fault c.from.result refl
    c.from.ensures (rw c.in-Err.is at p.refused)
