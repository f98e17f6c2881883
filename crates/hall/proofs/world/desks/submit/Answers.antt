use Rattle.std.proofs.Common.{refl, ap, Err}
use Rattle.replica.specs.roles.model.RunningDesks.{RunningDesk}
use Rattle.hall.proofs.world.Happening.{does_refuse}
use Rattle.hall.proofs.world.desks.submit.Goals as goal

pub returns-in-Err-Refused-clause-ok : goal.returns-in-Err-Refused-clause-ok
returns-in-Err-Refused-clause-ok c =
    let e = c.in-Err-Refused.ensures.refused c.in-Err-Refused.why in
    λ sent. does_refuse c.args.desk.now c.submit.new.self sent sent c.in-Err-Refused.why _
    (e.0 (ap (λ x. Err x) c.in-Err-Refused.field-0-is))
    (ap (λ (z : RunningDesk). z.desk) c.in-Err-Refused.ensures.err) refl
